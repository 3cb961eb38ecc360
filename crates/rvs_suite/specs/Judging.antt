-- What every call of `run` promises.
use Rattle.std.specs.Prelude.{◌≡◌, ◌⊎◌, ℕ, List, [], ◌∷◌, ◌++◌, length, Some, option_map}
use Rattle.std.specs.Prelude.{Result, Ok, Contains, IsTrue}
use Rattle.rvs_base.specs.Host.{Files, Tells}
use Rattle.rvs_base.specs.Sink.{appended}
use Rattle.rvs_base.specs.declared.host.DeviceRun.{DeviceRun}
use Rattle.rvs_plan.specs.declared.stop.Stop.{Stop}
use Rattle.rvs_plan.specs.declared.status.Finish.{Finish}
use Rattle.rvs_plan.specs.declared.status.Status.TheVariants.{Done, NotPassed}
use Rattle.rvs_sig.specs.Words.{text_of_words}
use Rattle.rvs_cgf.specs.Groups.{Label}
use Rattle.rvs_solver.specs.Solving.{IsSolvableAt}
use Rattle.rvs_device.specs.Command.{wants_elf}
use Rattle.rvs_device.specs.Judging.{Spells}
use Rattle.rvs_promises.specs.Answered.{Answered, HasLeft}
use Rattle.rvs_promises.specs.Call.{Call, Asks, NothingFailed, AnswersOnly}
use Rattle.rvs_generate.specs.GenerateTexts.{listing}
use Rattle.rvs_generate.specs.Generate.{path_of}
use Rattle.rvs_inputs.specs.GroupFiles.{Inputs, and_then, inputs_in}
use Rattle.rvs_generate.specs.TestedInputs.{labels_in}
use Rattle.rvs_inputs.specs.DeviceInput.{device_in}
use Rattle.rvs_promises.specs.Headline.{HasProvedTest}
use Rattle.rvs_promises.specs.Rooms.{AsksForRoom}
use Rattle.rvs_generate.specs.Tests.{reference_words, executable_of, tests_of, held}
use Rattle.rvs_generate.specs.TestFiles.{IsOther, files_of}
use Rattle.rvs_run.specs.RunTests.{Bench, files_for, asks_elf, tally_line, verdict_of_all}
use Rattle.rvs_run.specs.RunTests.{RunInputs, bench_of}
use Rattle.rvs_suite.specs.RunLeft.{Trial, AreTrialsOf, with_trials, trial_lines, trials_passed}
use Rattle.rvs_suite.specs.RunLeft.{runs_of, AreJudged, IsRunOf, HaveRun, task_of}
use Rattle.rvs_suite.specs.Signing.{IsSigned}
use Rattle.rvs_generate.specs.declared.gathering.Test.{Test}
use Rattle.rvs_generate.specs.declared.sources.Source.{Source}
use Rattle.rvs_words.specs.declared.command.Command.TheVariants.{Run}
use Rattle.rvs_words.specs.declared.command.RunArguments.{RunArguments}

-- what the ISA file, the group files and the device file give, or the first of them that isn't
-- there or is refused
abbrev pub run_inputs_in : Files → RunArguments → Result RunInputs Stop
run_inputs_in files asked =
    and_then (labels_in files asked.part asked.isa asked.families asked.groups) (λ inputs.
    and_then (device_in files asked.device) (λ told.
    Ok (record { groups = inputs; device = told })))

-- the tests of what was read
abbrev pub tests_in : RunInputs → List Test
tests_in inputs = tests_of inputs.groups.isa inputs.groups.groups

-- These trials of the first of the tests, and no other, are what the call has done: its runs, its
-- files, and its output, between what was said before and a last line.
pub record HasTried (call : Call) (bench : Bench) (files : Files) (sources : List Source)
    (trials : List Trial) (said last : List ℕ) : Type 0 where
  pub each : AreTrialsOf bench files sources trials
  pub made : call.new.host.runs ≡ option_map (λ before. before ++ runs_of trials) call.old.host.runs
  pub files_are : call.new.host.files ≡ Some (with_trials trials files)
  pub out : call.new.out.bytes
      ≡ appended call.old.out.bytes (said ++ (trial_lines trials ++ last))

-- every test was judged by one run of the device, and this is the verdict on all of them
pub record HasJudged (call : Call) (bench : Bench) (files : Files) (sources : List Source)
    (said : List ℕ) (end : Finish) : Type 0 where
  pub trials : List Trial
  pub tried : HasTried call bench files sources trials said
      (tally_line (length sources) (trials_passed 0 trials))
  pub verdict : end ≡ verdict_of_all (length sources) (trials_passed 0 trials)
  pub means : AreJudged bench end trials

-- the tests of groups were, behind what is said of the labels
abbrev pub HasJudgedTests : Call → Files → RunArguments → RunInputs → Finish → Type 0
HasJudgedTests call files asked inputs end =
    HasJudged call (bench_of asked.program asked.work inputs) files (held (tests_in inputs))
    (listing inputs.groups.isa inputs.groups.groups) end

-- the files of a test that was judged: its text, its executable where the device asks for it, the
-- words of the reference machine, and what the one run of the device on it left
pub record HasTestFiles (call : Call) (bench : Bench) (test : Test) (files' : Files) : Type 0 where
  pub text : files' (files_for bench test).test ≡ Some test.text
  pub executable : IsTrue (asks_elf bench)
      → files' (files_for bench test).executable ≡ Some (executable_of bench.isa test)
  pub reference : files' (files_for bench test).reference
      ≡ Some (text_of_words (reference_words bench.isa test))
  pub run : DeviceRun
  pub is_run : IsRunOf bench test run
  pub made : (runs : List DeviceRun) → call.new.host.runs ≡ Some runs → Contains runs run
  pub device : files' (files_for bench test).device ≡ run.after

-- a call of `run` on these of these files, for this folder
pub record Runs (call : Call) (files : Files) (asked : RunArguments) : Type 0 where
  -- What may be signed where it is done: its inputs are accepted, each test passes, and each label
  -- with a point that a choice hits has a test that is proved of its bytes alone, was run by this
  -- device in this call, and left the words of the proved run.
  pub signed : call.status ≡ Done → HasLeft (run_inputs_in files asked)
      (λ inputs. IsSigned call (bench_of asked.program asked.work inputs) inputs.groups.groups
      (tests_in inputs))
  -- it is done where its inputs are accepted and every test passes, and not passed where a test
  -- doesn't; each was judged; it is refused, or the host fails, at the first input that isn't
  -- accepted, and no test is refused, traps or runs on
  pub answered : Answered call (run_inputs_in files asked) (HasJudgedTests call files asked)
  -- The headline: where all tests were judged, the file of each label with a point that a choice
  -- hits is there, and of its bytes alone it is a test that hits each such point.
  pub each : (inputs : RunInputs) (l : Label) (k : ℕ) (files' : Files)
      → run_inputs_in files asked ≡ Ok inputs → Contains inputs.groups.groups l
      → IsTrue l.selected → IsSolvableAt inputs.groups.isa l k
      → (call.status ≡ Done) ⊎ (call.status ≡ NotPassed) → call.new.host.files ≡ Some files'
      → HasProvedTest files' (path_of asked.work l.name) inputs.groups.isa l
  -- where the core has no room for the test of a selected label, the first such label is named, no
  -- file is written, and the device isn't run
  pub rooms : (inputs : Inputs) → inputs_in files asked.isa asked.families asked.groups ≡ Ok inputs
      → AsksForRoom call files inputs
  -- where all tests were judged, the files of each are there
  pub there : (inputs : RunInputs) (test : Test) (files' : Files)
      → run_inputs_in files asked ≡ Ok inputs → Contains (tests_in inputs) test
      → (call.status ≡ Done) ⊎ (call.status ≡ NotPassed) → call.new.host.files ≡ Some files'
      → HasTestFiles call (bench_of asked.program asked.work inputs) test files'
  -- where all tests were judged, the device was run once on each, in their order, and no more
  pub once : (inputs : RunInputs) (before after : List DeviceRun)
      → run_inputs_in files asked ≡ Ok inputs
      → (call.status ≡ Done) ⊎ (call.status ≡ NotPassed)
      → call.old.host.runs ≡ Some before → call.new.host.runs ≡ Some after
      → HaveRun (bench_of asked.program asked.work inputs) (tests_in inputs) before after
  -- where one test was made, and the one run on it left the reference's words, it is done
  pub alone : (inputs : RunInputs) (test : Test) (before : List DeviceRun) (run : DeviceRun)
      → run_inputs_in files asked ≡ Ok inputs → tests_in inputs ≡ test ∷ []
      → call.old.host.runs ≡ Some before → call.new.host.runs ≡ Some (before ++ run ∷ [])
      → Spells (task_of (bench_of asked.program asked.work inputs) test) run.after
      → NothingFailed call
      → AnswersOnly call Done
  -- it changes no file but those of its tests, however it ends
  pub others_kept : (files' : Files) (other : List ℕ)
      → ((inputs : RunInputs) (test : Test) → run_inputs_in files asked ≡ Ok inputs
      → Contains (tests_in inputs) test → IsOther (wants_elf inputs.device.command)
      (files_of asked.work test.name) other)
      → call.new.host.files ≡ Some files' → files' other ≡ files other

-- the same of every call: over told files, where its words ask for `run`
abbrev pub Promise : Call → Type 0
Promise call =
    (files : Files) (asked : RunArguments)
    → Tells call.old.host files → Asks call (Run asked)
    → Runs call files asked
