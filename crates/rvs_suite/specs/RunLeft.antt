-- What judging tests leaves: the runs of the device, the files, and the verdicts.
use Rattle.std.specs.Prelude.{◌≡◌, ℕ, List, [], ◌∷◌, ◌++◌, map, Option, Some, None, Result, Ok, ⊤}
use Rattle.std.specs.Prelude.{All, Contains}
use Rattle.rvs_base.specs.Host.{Files, with_file, with_left}
use Rattle.rvs_base.specs.declared.host.DeviceRun.{DeviceRun}
use Rattle.rvs_plan.specs.Inputs.{part_end}
use Rattle.rvs_plan.specs.declared.stop.Stop.{Stop}
use Rattle.rvs_plan.specs.declared.status.Finish.{Finish}
use Rattle.rvs_plan.specs.declared.status.Finish.TheVariants as finish
use Rattle.rvs_sig.specs.Words.{text_of_words}
use Rattle.rvs_device.specs.Command.{started_with}
use Rattle.rvs_device.specs.Judged.{verdict_on}
use Rattle.rvs_device.specs.Judging.{Spells, Task, task}
use Rattle.rvs_device.specs.Printed.{verdict_line}
use Rattle.rvs_device.specs.declared.verdicts.TestVerdict.{TestVerdict}
use Rattle.rvs_inputs.specs.GroupFiles.{and_then}
use Rattle.rvs_reference.specs.Reference.{test_limit}
use Rattle.rvs_run.specs.RunTests.{Bench, files_for, filling, made_for, made_found, passes}
use Rattle.rvs_run.specs.RunTests.{with_one}
use Rattle.rvs_generate.specs.TestFiles.{files_at}
use Rattle.rvs_reference.specs.TestRun.{found_end}
use Rattle.rvs_generate.specs.Tests.{reference_words, source_name}
use Rattle.rvs_generate.specs.declared.gathering.Test.{Test}
use Rattle.rvs_run.specs.declared.judging.Made.{Made}
use Rattle.rvs_generate.specs.declared.sources.Source.{Source}
use Rattle.rvs_generate.specs.declared.sources.Source.TheVariants.{Held, Read}

-- over these files, what comes of a test before it is judged, or why the command stops there; one
-- that was made is at hand
abbrev pub made_in : Files → Bench → Source → Result Made Stop
made_in files bench (Held test) = Ok (made_for bench test)
made_in files bench (Read given) =
    and_then (part_end test_limit given.name given.name test_limit (files given.name))
    (λ bytes. found_end (made_found bench (files_at bench.work given.place given.name) bytes))

-- a test with what came of it, and the run of the device on it
pub record Trial : Type 0 where
  pub source : Source
  pub made : Made
  pub run : DeviceRun

-- ---- files
-- the files with the text of a test that was made
abbrev pub with_held : List ℕ → Source → Files → Files
with_held name (Held test) files = with_file name test.text files
with_held name (Read given) files = files

-- the files with an executable, where there is one
abbrev pub with_executable : List ℕ → Option (List ℕ) → Files → Files
with_executable name None files = files
with_executable name (Some executable) files = with_file name executable files

-- the files with what is written of a test before the device's signature file is
abbrev pub with_made : Source → Made → Files → Files
with_made source made files = with_file made.files.reference (text_of_words made.words)
    (with_executable made.files.executable made.executable
    (with_held made.files.test source files))

-- the files when the device is started
abbrev pub started_on : Source → Made → Files → Files
started_on source made files = with_file made.files.device [] (with_made source made files)

-- the files with what is written of a test, and what its run left
abbrev pub with_trial : Trial → Files → Files
with_trial t files = with_left t.made.files.device t.run.after (with_made t.source t.made files)

-- the same of several, the first of them first
abbrev pub with_trials : List Trial → Files → Files
with_trials [] files = files
with_trials (t ∷ ts) files = with_trials ts (with_trial t files)

-- ---- trials
-- A trial of a test over these files: it was made, or its file, as it is there, is accepted, and
-- its run halts. The device is started with its words, on the test's file as it is then, which may
-- be one that was written for this test, and with an empty signature file.
pub record IsTrialOf (bench : Bench) (files : Files) (source : Source) (t : Trial) : Type 0 where
  pub source_is : t.source ≡ source
  pub made : made_in files bench source ≡ Ok t.made
  pub words : t.run.words
      ≡ started_with (filling bench t.made.files) bench.device.command
  pub test : t.run.test ≡ started_on source t.made files t.made.files.test
  pub before : t.run.before ≡ Some []

-- one trial for each test, in their order, and no other; each over the files as those before it
-- left them
abbrev pub AreTrialsOf : Bench → Files → List Source → List Trial → Type 0
AreTrialsOf bench files [] [] = ⊤
AreTrialsOf bench files [] (t ∷ ts) = ⊥
AreTrialsOf bench files (source ∷ sources) [] = ⊥
AreTrialsOf bench files (source ∷ sources) (t ∷ ts) =
    IsTrialOf bench files source t × AreTrialsOf bench (with_trial t files) sources ts

-- what the device is asked on a test
abbrev pub task_on : Bench → Made → Task
task_on bench made =
    task bench.device.command (filling bench made.files) made.words

-- the verdict on a test: what its run left, beside the words of the reference machine
abbrev pub trial_verdict : Trial → TestVerdict
trial_verdict t = verdict_on t.run.status t.made.words t.run.after

-- the lines of the verdicts, with the names of the tests
abbrev pub trial_lines : List Trial → List ℕ
trial_lines [] = []
trial_lines (t ∷ ts) =
    verdict_line (source_name t.source) (trial_verdict t) ++ trial_lines ts

-- how many of the tests pass, onto so many
abbrev pub trials_passed : ℕ → List Trial → ℕ
trials_passed passed [] = passed
trials_passed passed (t ∷ ts) = trials_passed (with_one passed (passes (trial_verdict t))) ts

abbrev pub runs_of : List Trial → List DeviceRun
runs_of ts = map (λ t. t.run) ts

-- what the run of a trial left spells the words of the reference machine
abbrev pub HasSpelled : Bench → Trial → Type 0
HasSpelled bench t = Spells (task_on bench t.made) t.run.after

-- all trials have, where the verdict on all is a pass; one hasn't, where it is none
abbrev pub AreJudged : Bench → Finish → List Trial → Type 0
AreJudged bench finish.Done trials = All (HasSpelled bench) trials
AreJudged bench finish.NotPassed trials =
    (t : Trial) × Contains trials t × (HasSpelled bench t → ⊥)

-- ---- of tests that were made
-- a run of the device on a test: with the device's words, the test's text in its file, and an empty
-- signature file before
pub record IsRunOf (bench : Bench) (test : Test) (run : DeviceRun) : Type 0 where
  pub words : run.words
      ≡ started_with (filling bench (files_for bench test)) bench.device.command
  pub text : run.test ≡ Some test.text
  pub before : run.before ≡ Some []

-- one run for each test, in their order, and no other
abbrev pub AreRunsOf : Bench → List Test → List DeviceRun → Type 0
AreRunsOf bench [] [] = ⊤
AreRunsOf bench [] (run ∷ runs) = ⊥
AreRunsOf bench (test ∷ tests) [] = ⊥
AreRunsOf bench (test ∷ tests) (run ∷ runs) = IsRunOf bench test run × AreRunsOf bench tests runs

-- these are the runs that stand behind those before, one for each test
pub record HaveRun (bench : Bench) (tests : List Test) (before after : List DeviceRun)
    : Type 0 where
  pub runs : List DeviceRun
  pub each : AreRunsOf bench tests runs
  pub behind : after ≡ before ++ runs

abbrev pub trial_of : Bench → Test → DeviceRun → Trial
trial_of bench test run = record { source = Held test; made = made_for bench test; run = run }

-- the verdict on a test: what its run left, beside the words of the reference machine
abbrev pub verdict_by : Bench → Test → DeviceRun → TestVerdict
verdict_by bench test run = verdict_on run.status (reference_words bench.isa test) run.after

-- what the device is asked on a test
abbrev pub task_of : Bench → Test → Task
task_of bench test =
    task bench.device.command (filling bench (files_for bench test))
    (reference_words bench.isa test)
