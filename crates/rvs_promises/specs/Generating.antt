-- What every call of `generate` promises.
use Rattle.std.specs.Prelude.{◌≡◌, ◌≢◌, ℕ, IsTrue, if◌then◌else◌, List, [], ◌∷◌, ◌++◌, Option, Some}
use Rattle.std.specs.Prelude.{None, Result, Ok, codes, Contains}
use Rattle.rvs_base.specs.Host.{Files, Tells, written}
use Rattle.rvs_base.specs.Sink.{appended}
use Rattle.rvs_plan.specs.declared.stop.Stop.{Stop}
use Rattle.rvs_plan.specs.declared.status.Status.TheVariants.{Done}
use Rattle.rvs_insn.specs.Isa.{Isa}
use Rattle.rvs_cgf.specs.Groups.{Label, Point}
use Rattle.rvs_solver.specs.Solving.{IsSolvableAt}
use Rattle.rvs_test.specs.Made.{cases_of, text_of_label}
use Rattle.rvs_test_text.specs.TestText.{step_limit}
use Rattle.rvs_test.specs.Claimed.{TestRuns}
use Rattle.rvs_promises.specs.Answered.{Answered, OnDone}
use Rattle.rvs_promises.specs.Call.{Call, Asks}
use Rattle.rvs_generate.specs.GenerateTexts.{unsolved_line, name_line, listing}
use Rattle.rvs_generate.specs.Generate.{path_of}
use Rattle.rvs_inputs.specs.GroupFiles.{Inputs, inputs_in}
use Rattle.rvs_generate.specs.TestedInputs.{labels_in}
use Rattle.rvs_promises.specs.Headline.{HasProvedTest, HasLowTest}
use Rattle.rvs_promises.specs.Rooms.{AsksForRoom}
use Rattle.rvs_generate.specs.Tests.{tests_of}
use Rattle.rvs_generate.specs.declared.gathering.Test.{Test}
use Rattle.rvs_words.specs.declared.command.Command.TheVariants.{Generate}
use Rattle.rvs_words.specs.declared.command.GenerateArguments.{GenerateArguments}

-- the files with a text more, where there is one
abbrev pub with_text : List ℕ → Option (List ℕ) → Option Files → Option Files
with_text path None files = files
with_text path (Some text) files = written path text files

-- the files with the test of a label
abbrev pub with_test : List ℕ → Isa → Label → Option Files → Option Files
with_test work isa l files =
    if l.selected then with_text (path_of work l.name) (text_of_label isa l) files else files

-- the files with the tests of all labels, one after another
abbrev pub with_tests : List ℕ → Isa → List Label → Option Files → Option Files
with_tests work isa [] files = files
with_tests work isa (l ∷ ls) files = with_tests work isa ls (with_test work isa l files)

-- the tests are there, and the output says what they are
pub record HasGenerated (call : Call) (work : List ℕ) (inputs : Inputs) : Type 0 where
  pub files : call.new.host.files ≡ with_tests work inputs.isa inputs.groups call.old.host.files
  pub out : call.new.out.bytes ≡ appended call.old.out.bytes (listing inputs.isa inputs.groups)

-- the file of a label's test is there, and its run executes one instruction at the symbol of its
-- only case, which hits the label's only point
pub record HasOneTest (call : Call) (work : List ℕ) (isa : Isa) (l : Label) : Type 0 where
  pub text : List ℕ
  pub there : (files' : Files) → call.new.host.files ≡ Some files'
      → files' (path_of work l.name) ≡ Some text
  pub runs : TestRuns isa l text (record { case = 0; point = 0 } ∷ []) (step_limit (cases_of isa l))

-- no file is written, and this point of the label is put as unsolved
pub record HasNoTest (call : Call) (l : Label) (p : Point) : Type 0 where
  pub files : call.new.host.files ≡ call.old.host.files
  pub out : call.new.out.bytes ≡ appended call.old.out.bytes (name_line l.name ++ (unsolved_line p
      ++ codes "total 0 tests, 0 cases, 1 unsolved, 0 skipped\n"))

-- a file that is none of the tests of these inputs, where they are accepted
abbrev pub IsNoTest : List ℕ → Result Inputs Stop → List ℕ → Type 0
IsNoTest work found other = (inputs : Inputs) (test : Test) → found ≡ Ok inputs
    → Contains (tests_of inputs.isa inputs.groups) test → other ≢ path_of work test.name

-- a call of `generate` on these of these files, for this folder
pub record Generates (call : Call) (files : Files) (asked : GenerateArguments) : Type 0 where
  -- it is done where the ISA file and the groups are accepted, and has written the tests and put
  -- their cases; it is refused, or the host fails, at the first file that isn't
  pub answered : Answered call (labels_in files asked.part asked.isa asked.families asked.groups)
      (OnDone
      (HasGenerated call asked.work))
  -- The headline: where it is done, the file of each label with a point that a choice hits is
  -- there, and of its bytes alone it is a test that hits each such point.
  pub each : (inputs : Inputs) (l : Label) (k : ℕ) (files' : Files)
      → labels_in files asked.part asked.isa asked.families asked.groups ≡ Ok inputs
      → Contains inputs.groups l
      → IsTrue l.selected
      → IsSolvableAt inputs.isa l k → call.status ≡ Done → call.new.host.files ≡ Some files'
      → HasProvedTest files' (path_of asked.work l.name) inputs.isa l
  -- so also where the core's text begins at 0 and its data at 65,536: the test's image lies there
  pub low : (inputs : Inputs) (l : Label) (k : ℕ) (files' : Files)
      → labels_in files asked.part asked.isa asked.families asked.groups ≡ Ok inputs
      → inputs.isa.memory ≡ record { text_base = 0; data_base = 0x1_0000 }
      → Contains inputs.groups l
      → IsTrue l.selected
      → IsSolvableAt inputs.isa l k → call.status ≡ Done → call.new.host.files ≡ Some files'
      → HasLowTest files' (path_of asked.work l.name) inputs.isa l
  -- Where the core has no room for the test of a selected label, the first such label is named, and
  -- no file is written.
  pub rooms : (inputs : Inputs) → inputs_in files asked.isa asked.families asked.groups ≡ Ok inputs
      → AsksForRoom call files inputs
  -- where it is done, each label that has a test has it in its file
  pub there : (inputs : Inputs) (l : Label) (text : List ℕ) (files' : Files)
      → labels_in files asked.part asked.isa asked.families asked.groups ≡ Ok inputs
      → Contains inputs.groups l
      → IsTrue l.selected
      → text_of_label inputs.isa l ≡ Some text → call.status ≡ Done
      → call.new.host.files ≡ Some files' → files' (path_of asked.work l.name) ≡ Some text
  -- so a group file with one label and one point that a choice hits leaves a test that hits it
  pub one : (isa' : Isa) (l : Label) (p : Point)
      → labels_in files asked.part asked.isa asked.families asked.groups
      ≡ Ok (record { isa = isa'; groups = l ∷ [] })
      → IsTrue l.selected → l.points ≡ p ∷ [] → IsSolvableAt isa' l 0 → call.status ≡ Done
      → HasOneTest call asked.work isa' l
  -- and one with a point that no choice hits leaves no test
  pub none : (isa' : Isa) (l : Label) (p : Point)
      → labels_in files asked.part asked.isa asked.families asked.groups
      ≡ Ok (record { isa = isa'; groups = l ∷ [] })
      → IsTrue l.selected → l.points ≡ p ∷ [] → l.skipped ≡ [] → (IsSolvableAt isa' l 0 → ⊥)
      → call.status ≡ Done → HasNoTest call l p
  -- it changes no file but those of its tests, however it ends
  pub others_kept : (files' : Files) (other : List ℕ)
      → IsNoTest asked.work (labels_in files asked.part asked.isa asked.families asked.groups) other
      → call.new.host.files ≡ Some files'
      → files' other ≡ files other

-- the same of every call: over told files, where its words ask for `generate`
abbrev pub Promise : Call → Type 0
Promise call =
    (files : Files) (asked : GenerateArguments)
    → Tells call.old.host files → Asks call (Generate asked)
    → Generates call files asked
