-- What every call of `run` over a database promises.
use Rattle.std.specs.Prelude.{◌≡◌, ◌≢◌, ◌≤◌, ◌⊎◌, ◌↔◌, ℕ, List, [], ◌∷◌, ◌++◌, length, Some}
use Rattle.std.specs.Prelude.{None, Result, Ok, Err, Contains, IsTrue}
use Rattle.rvs_base.specs.Host.{Files, Tells}
use Rattle.rvs_base.specs.Sink.{appended}
use Rattle.rvs_base.specs.declared.host.DeviceRun.{DeviceRun}
use Rattle.rvs_plan.specs.Account.{line_of}
use Rattle.rvs_plan.specs.World.{contents}
use Rattle.rvs_plan.specs.declared.stop.Stop.{Stop}
use Rattle.rvs_plan.specs.declared.stop.Stop.TheVariants as why
use Rattle.rvs_plan.specs.declared.status.Finish.{Finish}
use Rattle.rvs_plan.specs.declared.status.Finish.TheVariants as finish
use Rattle.rvs_plan.specs.declared.status.Status.TheVariants.{Done, NotPassed, Refused, HostFault}
use Rattle.rvs_machine.specs.Image.{ImageValue}
use Rattle.rvs_elf.specs.Executable.{image_of_elf}
use Rattle.rvs_elf.specs.Laws.{RunsAs}
use Rattle.rvs_elf.specs.Written.{elf_of}
use Rattle.rvs_device.specs.Command.{wants_elf}
use Rattle.rvs_device.specs.Judging.{Spells}
use Rattle.rvs_device.specs.declared.verdicts.TestVerdict.TheVariants.{Pass}
use Rattle.rvs_promises.specs.Answered.{HasLeft, HasRefused, HasMissed}
use Rattle.rvs_promises.specs.Call.{Call, world_of, Asks, NothingFailed, HostRose, AnswersOnly}
use Rattle.rvs_inputs.specs.DatabaseInput.{marked_in}
use Rattle.rvs_inputs.specs.DeviceInput.{device_in}
use Rattle.rvs_inputs.specs.GroupFiles.{and_then}
use Rattle.rvs_suite.specs.Judging.{HasTried, HasJudged}
use Rattle.rvs_promises.specs.Referencing.{trial_in}
use Rattle.rvs_run.specs.RunDatabase.{chosen, DatabaseInputs, database_bench}
use Rattle.rvs_suite.specs.RunLeft.{made_in, Trial, with_trials, task_on, trial_verdict, HasSpelled}
use Rattle.rvs_run.specs.RunTests.{Bench, asks_elf, made_found}
use Rattle.rvs_inputs.specs.Specification.{said_in}
use Rattle.rvs_generate.specs.TestFiles.{files_at}
use Rattle.rvs_reference.specs.TestRun.{image_found, limit_of}
use Rattle.rvs_generate.specs.Tests.{to_read}
use Rattle.rvs_run.specs.declared.judging.Made.{Made}
use Rattle.rvs_generate.specs.declared.sources.Given.{Given}
use Rattle.rvs_generate.specs.declared.sources.Source.TheVariants.{Read}
use Rattle.rvs_reference.specs.declared.test_run.Run.{Run}
use Rattle.rvs_words.specs.Commands.{most_steps}
use Rattle.rvs_words.specs.declared.command.Command.TheVariants.{RunDatabase}
use Rattle.rvs_words.specs.declared.command.RunDatabaseArguments.{RunDatabaseArguments}

-- what the ISA file, the database and the device file give, or the first of them that isn't there
-- or is refused
abbrev pub database_inputs_in : Files → RunDatabaseArguments → Result DatabaseInputs Stop
database_inputs_in files asked =
    and_then (said_in files asked.isa) (λ said.
    and_then (marked_in files asked.part said.spec asked.database) (λ entries.
    and_then (device_in files asked.device) (λ told.
    Ok (record { isa = said.spec; entries = entries; device = told }))))

-- the selected tests, with their places
abbrev pub chosen_in : DatabaseInputs → List Given
chosen_in inputs = chosen 0 inputs.entries

-- no file, no run and no output is other than before
abbrev pub LeftAsItWas : Call → Type 0
LeftAsItWas call = contents (world_of call.new) ≡ contents (world_of call.old)

-- every selected test was judged
abbrev pub HasJudgedChosen : Call → Files → RunDatabaseArguments → Finish → DatabaseInputs → Type 0
HasJudgedChosen call files asked end inputs =
    HasJudged call (database_bench asked.program asked.work inputs) files
    (to_read (chosen_in inputs)) [] end

-- The tests before one were judged, and the work ended at this one, whose file isn't there or isn't
-- accepted, whose run trapped, or didn't halt. Nothing was written or put of it, or of those behind
-- it, but the line for errors.
pub record HasStopped (call : Call) (files : Files) (program work : List ℕ) (stop : Stop)
    (inputs : DatabaseInputs) : Type 0 where
  pub before : List Given
  pub given : Given
  pub behind : List Given
  pub all : chosen_in inputs ≡ before ++ given ∷ behind
  pub trials : List Trial
  pub tried : HasTried call (database_bench program work inputs) files (to_read before) trials [] []
  pub stops : made_in (with_trials trials files) (database_bench program work inputs) (Read given)
      ≡ Err stop
  pub line : call.new.err.bytes ≡ appended call.old.err.bytes (line_of stop)

-- the same for some stop of a kind
pub record HasStoppedBy (call : Call) (files : Files) (asked : RunDatabaseArguments)
    (kind : List ℕ → Stop) : Type 0 where
  pub text : List ℕ
  pub at : HasLeft (database_inputs_in files asked)
      (HasStopped call files asked.program asked.work (kind text))

-- what comes of a test has the words of the run that `reference` makes of it where no steps are
-- asked for
pub record IsMadeOf (files : Files) (bench : Bench) (given : Given) (made : Made) : Type 0 where
  pub run : Run
  pub ran : trial_in files None bench.isa given.name ≡ Ok run
  pub words : made.words ≡ run.words
  pub named : made.files ≡ files_at bench.work given.place given.name

-- a test passes exactly where what its run left spells the words of the reference machine
abbrev pub PassesBySpelling : Bench → Trial → Type 0
PassesBySpelling bench t =
    (trial_verdict t ≡ Pass (length t.made.words) t.run.status)
    ↔ HasSpelled bench t

-- The executable of a test that was judged is in its file: it is written of the image of what the
-- test's own file held, and is read as one that runs as this does.
pub record HasExecutable (bench : Bench) (files' : Files) (given : Given) : Type 0 where
  pub bytes : List ℕ
  pub made : Made
  pub made_of : made_found bench (files_at bench.work given.place given.name) bytes ≡ Ok made
  pub image : ImageValue
  pub spelt : image_found bench.isa given.name bytes ≡ Ok image
  pub there : files' (files_at bench.work given.place given.name).executable
      ≡ Some (elf_of image)
  pub again : ImageValue
  pub read : image_of_elf bench.isa.memory (elf_of image) ≡ Ok again
  pub alike : RunsAs again image

-- a file that is none of those that are written for a test
pub record IsNoneOf (bench : Bench) (given : Given) (other : List ℕ) : Type 0 where
  pub executable : IsTrue (wants_elf bench.device.command)
      → other ≢ (files_at bench.work given.place given.name).executable
  pub reference : other ≢ (files_at bench.work given.place given.name).reference
  pub device : other ≢ (files_at bench.work given.place given.name).device

-- a call of `run` on these of these files
pub record RunsDatabase (call : Call) (files : Files) (asked : RunDatabaseArguments) : Type 0 where
  -- it is done where its inputs are accepted and each selected test was judged and passes, and not
  -- passed where each was judged and one doesn't pass
  pub done : call.status ≡ Done → HasLeft (database_inputs_in files asked)
      (HasJudgedChosen call files asked finish.Done)
  pub not_passed : call.status ≡ NotPassed → HasLeft (database_inputs_in files asked)
      (HasJudgedChosen call files asked finish.NotPassed)
  -- it is refused where an input is, and has changed nothing, or where a selected test is, behind
  -- the verdicts before it
  pub refused : call.status ≡ Refused
      → (HasRefused call (database_inputs_in files asked) × LeftAsItWas call)
      ⊎ HasStoppedBy call files asked why.Refused
  -- the host fails where an input isn't there, and has changed nothing, where a selected test
  -- isn't, behind the verdicts before it, or where a count rose
  pub absent : call.status ≡ HostFault
      → (HasMissed call (database_inputs_in files asked) × LeftAsItWas call)
      ⊎ HasStoppedBy call files asked why.NoFile ⊎ HostRose call
  -- where an input is refused or isn't there, it says so
  pub by_refusal : (text : List ℕ) → database_inputs_in files asked ≡ Err (why.Refused text)
      → NothingFailed call → AnswersOnly call Refused
  pub by_absence : (name : List ℕ) → database_inputs_in files asked ≡ Err (why.NoFile name)
      → NothingFailed call → AnswersOnly call HostFault
  -- a test is run as by `reference`
  pub runs : (files' : Files) (bench : Bench) (given : Given) (made : Made)
      → made_in files' bench (Read given) ≡ Ok made → IsMadeOf files' bench given made
  -- the run of whatever a test's file holds is ended after 2,000,000 instructions at most
  pub limited : (name bytes : List ℕ) → limit_of None name bytes ≤ most_steps
  -- a pass says that the device left the reference's words
  pub passes : (bench : Bench) (t : Trial) → PassesBySpelling bench t
  -- where each was judged and the device asks for executables, that of each is there, and runs as
  -- the test does
  pub executables : (inputs : DatabaseInputs) (given : Given) (files' : Files)
      → database_inputs_in files asked ≡ Ok inputs → Contains (chosen_in inputs) given
      → IsTrue (asks_elf (database_bench asked.program asked.work inputs))
      → (call.status ≡ Done) ⊎ (call.status ≡ NotPassed) → call.new.host.files ≡ Some files'
      → HasExecutable (database_bench asked.program asked.work inputs) files' given
  -- where one test is selected, its file is accepted, and the one run on it left the reference's
  -- words, it is done
  pub alone : (inputs : DatabaseInputs) (given : Given) (made : Made) (before : List DeviceRun)
      (run : DeviceRun) → database_inputs_in files asked ≡ Ok inputs
      → chosen_in inputs ≡ given ∷ []
      → made_in files (database_bench asked.program asked.work inputs) (Read given) ≡ Ok made
      → call.old.host.runs ≡ Some before → call.new.host.runs ≡ Some (before ++ run ∷ [])
      → Spells (task_on (database_bench asked.program asked.work inputs) made) run.after
      → NothingFailed call
      → AnswersOnly call Done
  -- it changes no file but those that are named by the places of its selected tests, however it
  -- ends
  pub others_kept : (files' : Files) (other : List ℕ)
      → ((inputs : DatabaseInputs) (given : Given) → database_inputs_in files asked ≡ Ok inputs
      → Contains (chosen_in inputs) given
      → IsNoneOf (database_bench asked.program asked.work inputs) given other)
      → call.new.host.files ≡ Some files' → files' other ≡ files other

-- the same of every call: over told files, where its words ask for this
abbrev pub Promise : Call → Type 0
Promise call =
    (files : Files) (asked : RunDatabaseArguments)
    → Tells call.old.host files → Asks call (RunDatabase asked)
    → RunsDatabase call files asked
