-- What the parts of a run are together.
use Rattle.std.specs.Prelude.{◌≡◌, ◌≢◌, ◌≤◌, ◌↔◌, ◌++◌, ℕ, true, List, map, length}
use Rattle.std.specs.Prelude.{Contains, Option, Some, None, Ok}
use Rattle.std.specs.List.{flat_map}
use Rattle.rvs_base.specs.Host.{Files}
use Rattle.rvs_base.specs.declared.host.DeviceRun.{DeviceRun}
use Rattle.rvs_abstract.specs.declared.families.Families.{Families}
use Rattle.rvs_parts.specs.Parts.{PartValue, has, parted}
use Rattle.rvs_parts.specs.Laws.{IsInOnePart, in_parts}
use Rattle.rvs_plan.specs.declared.status.Finish.TheVariants.{Done}
use Rattle.rvs_insn.specs.Isa.{Isa}
use Rattle.rvs_cgf.specs.Groups.{Label}
use Rattle.rvs_select.specs.declared.database.Entry.{Entry}
use Rattle.rvs_inputs.specs.DatabaseInput.{marked}
use Rattle.rvs_generate.specs.GenerateTexts.{label_text, total_line, none, with_labels, listing}
use Rattle.rvs_inputs.specs.GroupFiles.{Inputs, and_then, parted_inputs}
use Rattle.rvs_generate.specs.TestedInputs.{labels_in}
use Rattle.rvs_run.specs.RunDatabase.{chosen}
use Rattle.rvs_suite.specs.RunLeft.{Trial, trial_of, trial_lines, trials_passed}
use Rattle.rvs_run.specs.RunTests.{Bench, verdict_of_all}
use Rattle.rvs_generate.specs.TestFiles.{files_of}
use Rattle.rvs_generate.specs.Tests.{tests_of_label, tests_of}
use Rattle.rvs_generate.specs.declared.gathering.Test.{Test}
use Rattle.rvs_generate.specs.declared.sources.Given.{Given}

-- the part of this number of so many
abbrev pub part_of : ℕ → ℕ → PartValue
part_of of at = record { at = at; of = of }

-- A part reads all inputs: it has the labels of the whole that are in it, and where the whole is
-- refused or lacks a file, so is and so does the part.
abbrev pub PartsReadAll : Type 0
PartsReadAll = (files : Files) (p : PartValue) (isa : List ℕ) (families : Families)
    (names : List (List ℕ)) → labels_in files (Some p) isa families names
    ≡ and_then (labels_in files None isa families names)
    (λ inputs. Ok (parted_inputs (Some p) inputs))

-- ---- the tests of labels
abbrev pub label_name : Label → List ℕ
label_name l = l.name

-- the tests of a part
abbrev pub tests_in_part : Inputs → ℕ → ℕ → List Test
tests_in_part inputs of at = tests_of inputs.isa (parted (Some (part_of of at)) inputs.groups)

-- a test is in the part of one number, and in no other
pub record IsInOne (inputs : Inputs) (of : ℕ) (test : Test) : Type 0 where
  pub at : ℕ
  pub low : 1 ≤ at
  pub high : at ≤ of
  pub here : Contains (tests_in_part inputs of at) test
  pub only : (other : ℕ) → Contains (tests_in_part inputs of other) test → other ≡ at

-- the file of this name is one that `run` writes of a test
pub data IsFileOf (work : List ℕ) (test : Test) (name : List ℕ) : Type 0 where
  IsText : name ≡ (files_of work test.name).test → IsFileOf work test name
  IsExecutable : name ≡ (files_of work test.name).executable → IsFileOf work test name
  IsReference : name ≡ (files_of work test.name).reference → IsFileOf work test name
  IsDevice : name ≡ (files_of work test.name).device → IsFileOf work test name

-- of accepted inputs, in so many parts
pub record AreParted (inputs : Inputs) (of : ℕ) : Type 0 where
  -- each label is in one part, and none of its name is in another
  pub labels : (l : Label) → Contains inputs.groups l
      → IsInOnePart label_name inputs.groups of l
  -- each test is in one part
  pub tests : (test : Test) → Contains (tests_of inputs.isa inputs.groups) test
      → IsInOne inputs of test
  -- two parts write no file in common, in whatever folder
  pub files : (work name : List ℕ) (a b : ℕ) (one other : Test) → a ≢ b
      → Contains (tests_in_part inputs of a) one → Contains (tests_in_part inputs of b) other
      → IsFileOf work one name → IsFileOf work other name → ⊥

abbrev pub PartsAreApart : Type 0
PartsAreApart = (files : Files) (isa : List ℕ) (families : Families) (names : List (List ℕ))
    (inputs : Inputs) (of : ℕ) → labels_in files None isa families names ≡ Ok inputs → 1 ≤ of
    → AreParted inputs of

-- ---- what a part says
-- A part lists the lines of its labels as the whole does, and its own totals.
abbrev pub PartsList : Type 0
PartsList = (isa : Isa) (labels : List Label) (part : Option PartValue)
    → listing isa (parted part labels)
    ≡ flat_map (λ text. text) (parted part (map (label_text isa) labels))
    ++ total_line (with_labels isa none (parted part labels))

-- the trials of tests, where these are the runs of the device
abbrev pub trials_by : Bench → (Test → DeviceRun) → List Test → List Trial
trials_by bench run tests = map (λ test. trial_of bench test (run test)) tests

-- the lines of the verdicts on the tests of labels
abbrev pub told_of : Bench → (Test → DeviceRun) → List Label → List ℕ
told_of bench run labels = trial_lines (trials_by bench run (tests_of bench.isa labels))

abbrev pub told_of_label : Bench → (Test → DeviceRun) → Label → List ℕ
told_of_label bench run l = trial_lines (trials_by bench run (tests_of_label bench.isa l))

-- where the device leaves the same of a test in a part as in the whole, a part tells the verdicts
-- of its labels as the whole does
abbrev pub PartsTell : Type 0
PartsTell = (bench : Bench) (run : Test → DeviceRun) (labels : List Label)
    (part : Option PartValue) → told_of bench run (parted part labels)
    ≡ flat_map (λ lines. lines) (parted part (map (told_of_label bench run) labels))

-- how many tests labels have, and how many of them pass
abbrev pub number_of_tests : Isa → List Label → ℕ
number_of_tests isa labels = length (tests_of isa labels)

abbrev pub number_passed : Bench → (Test → DeviceRun) → List Label → ℕ
number_passed bench run labels =
    trials_passed 0 (trials_by bench run (tests_of bench.isa labels))

-- so the totals of all parts add up to those of the whole
abbrev pub PartsCount : Type 0
PartsCount = (bench : Bench) (run : Test → DeviceRun) (labels : List Label) (of : ℕ) → 1 ≤ of
    → (in_parts of (λ at. number_of_tests bench.isa (parted (Some (part_of of at)) labels))
    ≡ number_of_tests bench.isa labels)
    × (in_parts of (λ at. number_passed bench run (parted (Some (part_of of at)) labels))
    ≡ number_passed bench run labels)

-- the run of these labels is done: each test passes
abbrev pub IsDone : Bench → (Test → DeviceRun) → List Label → Type 0
IsDone bench run labels =
    verdict_of_all (number_of_tests bench.isa labels) (number_passed bench run labels) ≡ Done

-- and all parts are done exactly where the whole is
abbrev pub PartsPass : Type 0
PartsPass = (bench : Bench) (run : Test → DeviceRun) (labels : List Label) (of : ℕ) → 1 ≤ of
    → IsDone bench run labels
    ↔ ((at : ℕ) → 1 ≤ at → at ≤ of → IsDone bench run (parted (Some (part_of of at)) labels))

-- ---- the tests of a database
-- a selected test keeps its place, by which its files are named, and is in the part of that place
-- alone
abbrev pub DatabasesAreParted : Type 0
DatabasesAreParted = (entries : List Entry) (p : PartValue) (given : Given)
    → Contains (chosen 0 (marked (Some p) entries)) given
    ↔ (Contains (chosen 0 entries) given × (has p given.place ≡ true))
