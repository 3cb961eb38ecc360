-- The tests of coverage groups, and the words that each leaves on the reference machine.
use Rattle.std.specs.Prelude.{◌≡◌, ℕ, if◌then◌else◌, List, [], ◌∷◌, Option, Some, None, Result, Ok}
use Rattle.std.specs.Prelude.{Err, map, ⊤}
use Rattle.std.specs.List.{flat_map}
use Rattle.rvs_insn.specs.Isa.{Isa}
use Rattle.rvs_machine.specs.Image.{ImageValue}
use Rattle.rvs_machine.specs.Machine.{started}
use Rattle.rvs_machine.specs.Run.{Outcome, run_of}
use Rattle.rvs_machine.specs.declared.event.End.TheVariants.{Halted}
use Rattle.rvs_elf.specs.Written.{elf_of}
use Rattle.rvs_asm_text.specs.Header.{header_steps}
use Rattle.rvs_asm.specs.Answer.{answer}
use Rattle.rvs_asm.specs.declared.refusal.AsmRefusal.{AsmRefusal}
use Rattle.rvs_cgf.specs.Groups.{Label}
use Rattle.rvs_test_text.specs.Claim.{words_after}
use Rattle.rvs_test.specs.Made.{cases_of, text_of_label}
use Rattle.rvs_test_text.specs.TestText.{step_limit}
use Rattle.rvs_generate.specs.declared.gathering.Test.{Test}
use Rattle.rvs_generate.specs.declared.sources.Given.{Given}
use Rattle.rvs_generate.specs.declared.sources.Source.{Source}
use Rattle.rvs_generate.specs.declared.sources.Source.TheVariants.{Held, Read}

abbrev pub test_with : List ℕ → ℕ → Option (List ℕ) → List Test
test_with name steps None = []
test_with name steps (Some text) = record { name = name; text = text; steps = steps } ∷ []

-- the test of a label: it has one where it is selected and a point of it is solved
abbrev pub tests_of_label : Isa → Label → List Test
tests_of_label isa l =
    if l.selected then test_with l.name (step_limit (cases_of isa l)) (text_of_label isa l) else []

-- those of all labels, in their order
abbrev pub tests_of : Isa → List Label → List Test
tests_of isa ls = flat_map (tests_of_label isa) ls

-- the run of an image on a core, of at most so many instructions
abbrev pub run_on : Isa → ImageValue → ℕ → Outcome
run_on isa image limit = run_of (started image isa).setup limit (started image isa).state

-- an image stands to a test, and its run halts within the test's steps, which its header says
pub record IsRunnable (isa : Isa) (test : Test) : Type 0 where
  pub image : ImageValue
  pub assembled : answer isa test.text ≡ Ok image
  pub header : header_steps test.text ≡ Some test.steps
  pub halts : (run_on isa image test.steps).end ≡ Halted

abbrev pub words_of_image : Isa → ℕ → Result ImageValue AsmRefusal → List ℕ
words_of_image isa limit (Ok image) = words_after image isa (run_on isa image limit)
words_of_image isa limit (Err refusal) = []

-- the words of the signature when the run of a test has ended; each test is runnable
unfoldable pub reference_words : Isa → Test → List ℕ
reference_words isa test = words_of_image isa test.steps (answer isa test.text)

abbrev pub elf_of_image : Result ImageValue AsmRefusal → List ℕ
elf_of_image (Ok image) = elf_of image
elf_of_image (Err refusal) = []

-- the executable of a test; an image stands to each test
unfoldable pub executable_of : Isa → Test → List ℕ
executable_of isa test = elf_of_image (answer isa test.text)

-- ---- tests that are judged: those that were made, and those of a database
abbrev pub held : List Test → List Source
held tests = map (λ test. Held test) tests

abbrev pub to_read : List Given → List Source
to_read given = map (λ g. Read g) given

-- the name that the verdict is put with
abbrev pub source_name : Source → List ℕ
source_name (Held test) = test.name
source_name (Read given) = given.name

-- one that was made can be run; of another it is seen when its turn comes
abbrev pub IsReady : Isa → Source → Type 0
IsReady isa (Held test) = IsRunnable isa test
IsReady isa (Read given) = ⊤
