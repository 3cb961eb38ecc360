-- What may be signed where `run` is done: on a test of each label with a point that a choice hits
-- the device left the words of the reference machine.
use Rattle.std.specs.Prelude.{◌≡◌, ℕ, List, Contains, IsTrue, Some}
use Rattle.rvs_base.specs.declared.host.DeviceRun.{DeviceRun}
use Rattle.rvs_cgf.specs.Groups.{Label}
use Rattle.rvs_solver.specs.Solving.{IsSolvableAt}
use Rattle.rvs_device.specs.Judging.{Spells}
use Rattle.rvs_test_text.specs.Claim.{words_after}
use Rattle.rvs_promises.specs.Call.{Call}
use Rattle.rvs_promises.specs.Headline.{IsProved}
use Rattle.rvs_run.specs.RunTests.{Bench}
use Rattle.rvs_suite.specs.RunLeft.{IsRunOf, task_of}
use Rattle.rvs_generate.specs.Tests.{reference_words, run_on}
use Rattle.rvs_generate.specs.declared.gathering.Test.{Test}

-- the device was run on a test in this call, with the test's text in its file and an empty
-- signature file before, and left the words that the test leaves on the reference machine
pub record Passes (call : Call) (bench : Bench) (test : Test) : Type 0 where
  pub run : DeviceRun
  pub made : (runs : List DeviceRun) → call.new.host.runs ≡ Some runs → Contains runs run
  pub is_run : IsRunOf bench test run
  pub spells : Spells (task_of bench test) run.after

-- one of these tests is the label's; of its bytes alone it hits each point that a choice hits; and
-- it passes
pub record HasPassedTest (call : Call) (bench : Bench) (tests : List Test)
    (l : Label) : Type 0 where
  pub test : Test
  pub among : Contains tests test
  pub own : test.name ≡ l.name
  pub proved : IsProved bench.isa l test.text
  -- the words that it is judged by are those of the run that this says of
  pub judged_by : reference_words bench.isa test
      ≡ words_after proved.image bench.isa (run_on bench.isa proved.image proved.steps)
  pub passes : Passes call bench test

-- each of these tests passes, and each of these labels with a point that a choice hits has one
pub record IsSigned (call : Call) (bench : Bench) (labels : List Label)
    (tests : List Test) : Type 0 where
  pub all : (test : Test) → Contains tests test → Passes call bench test
  pub each : (l : Label) (k : ℕ) → Contains labels l → IsTrue l.selected
      → IsSolvableAt bench.isa l k → HasPassedTest call bench tests l
