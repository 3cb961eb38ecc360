-- What holds of the tests of accepted inputs, whichever command makes them, in whichever part.
use Rattle.std.specs.Prelude.{◌≡◌, ◌↔◌, ℕ, List, length, Contains, IsTrue, Option, Some, None, Ok}
use Rattle.rvs_base.specs.Host.{Files}
use Rattle.rvs_base.specs.declared.host.DeviceRun.{DeviceRun}
use Rattle.rvs_abstract.specs.declared.families.Families.{Families}
use Rattle.rvs_parts.specs.Parts.{PartValue}
use Rattle.rvs_insn.specs.Isa.{Isa}
use Rattle.rvs_machine.specs.Image.{ImageValue}
use Rattle.rvs_elf.specs.Executable.{image_of_elf}
use Rattle.rvs_elf.specs.Laws.{RunsAs}
use Rattle.rvs_elf.specs.Written.{elf_of}
use Rattle.rvs_asm.specs.Answer.{answer}
use Rattle.rvs_cgf.specs.Groups.{Label}
use Rattle.rvs_normal.specs.Again.{names_are_apart}
use Rattle.rvs_solver.specs.Solving.{IsSolvableAt}
use Rattle.rvs_test.specs.Made.{text_of_label}
use Rattle.rvs_device.specs.Judging.{Spells}
use Rattle.rvs_device.specs.declared.verdicts.TestVerdict.TheVariants.{Pass}
use Rattle.rvs_inputs.specs.GroupFiles.{Inputs}
use Rattle.rvs_generate.specs.TestedInputs.{labels_in}
use Rattle.rvs_promises.specs.Headline.{IsProved}
use Rattle.rvs_suite.specs.Judging.{run_inputs_in}
use Rattle.rvs_suite.specs.RunLeft.{verdict_by, task_of}
use Rattle.rvs_run.specs.RunTests.{Bench, RunInputs}
use Rattle.rvs_promises.specs.Tested.{AreTested}
use Rattle.rvs_generate.specs.Tests.{IsRunnable, reference_words, executable_of, tests_of}
use Rattle.rvs_generate.specs.declared.gathering.Test.{Test}
use Rattle.rvs_words.specs.declared.command.RunArguments.{RunArguments}

-- this holds of whatever the ISA file and the group files give, of all labels or those of a part
abbrev pub OfAccepted : (Inputs → Type 0) → Type 0
OfAccepted Holds =
    (files : Files) (part : Option PartValue) (isa : List ℕ) (families : Families)
    (names : List (List ℕ)) (inputs : Inputs) → labels_in files part isa families names ≡ Ok inputs
    → Holds inputs

-- the tests run as their texts claim
abbrev pub TestsRun : Type 0
TestsRun = OfAccepted AreTested

-- no two labels have one name
abbrev pub NamesAreApart : Type 0
NamesAreApart = OfAccepted (λ inputs. IsTrue (names_are_apart inputs.groups))

-- the text of each test is proved of its bytes alone
abbrev pub TextsAreProved : Type 0
TextsAreProved = OfAccepted (λ inputs. (l : Label) (text : List ℕ) → Contains inputs.groups l
    → IsTrue l.selected → text_of_label inputs.isa l ≡ Some text → IsProved inputs.isa l text)

-- a label without a test has no point that a choice hits
abbrev pub UntestedHaveNone : Type 0
UntestedHaveNone = (isa : Isa) (l : Label) (k : ℕ) → text_of_label isa l ≡ None
    → IsSolvableAt isa l k → ⊥

-- an image stands to each test, and the reference machine halts on it within the test's steps
abbrev pub TestsAreRunnable : Type 0
TestsAreRunnable = OfAccepted (λ inputs. (test : Test)
    → Contains (tests_of inputs.isa inputs.groups) test → IsRunnable inputs.isa test)

-- An executable of a test: it is written of the image that stands to the test, and is read as one
-- that runs as this does.
pub record IsExecutableOf (isa : Isa) (test : Test) (bytes : List ℕ) : Type 0 where
  pub image : ImageValue
  pub assembled : answer isa test.text ≡ Ok image
  pub written : bytes ≡ elf_of image
  pub again : ImageValue
  pub read : image_of_elf isa.memory bytes ≡ Ok again
  pub alike : RunsAs again image

-- that of each test is one
abbrev pub ExecutablesRun : Type 0
ExecutablesRun = OfAccepted (λ inputs. (test : Test)
    → Contains (tests_of inputs.isa inputs.groups) test
    → IsExecutableOf inputs.isa test (executable_of inputs.isa test))

-- what `run` accepts, it accepts with groups that the ISA file and the group files give
abbrev pub RunsAccept : Type 0
RunsAccept = (files : Files) (asked : RunArguments) (inputs : RunInputs)
    → run_inputs_in files asked ≡ Ok inputs
    → labels_in files asked.part asked.isa asked.families asked.groups ≡ Ok inputs.groups

-- of any test and run, the verdict is a pass exactly where what the run left spells the words of
-- the reference machine
abbrev pub PassesBySpelling : Type 0
PassesBySpelling = (bench : Bench) (test : Test) (run : DeviceRun)
    → (verdict_by bench test run ≡ Pass (length (reference_words bench.isa test)) run.status)
    ↔ Spells (task_of bench test) run.after
