-- What holds of the tests that are made of accepted inputs.
use Rattle.std.proofs.Common.{◌≡◌, ℕ, List, map, All}
use Rattle.std.proofs.Common.{Contains, Option, Some, None, Result, Ok, Err, IfOk, IsTrue, refl}
use Rattle.std.proofs.Common.{subst, arith, rules}
use Rattle.std.proofs.lemmas.List.Elements.{All-contains}
use Rattle.std.specs.Prelude.{find}
use Rattle.rvs_base.specs.Host.{Files}
use Rattle.rvs_abstract.specs.declared.families.Families.{Families}
use Rattle.rvs_plan.specs.declared.stop.Stop.{Stop}
use Rattle.rvs_tree.specs.Data.{Data}
use Rattle.rvs_insn.specs.Isa.{Isa}
use Rattle.rvs_insn.specs.Memory.{HasRoom}
use Rattle.rvs_isa.proofs.Rooms.{accepted_have_room}
use Rattle.rvs_isa.specs.declared.accepted_spec.AcceptedSpec.{AcceptedSpec}
use Rattle.rvs_yaml.specs.Parsed.{Parsed}
use Rattle.rvs_cgf.specs.Groups.{Label, Refusal, groups_of}
use Rattle.rvs_points.specs.Valid.{IsValid, IsValidIfSelected}
use Rattle.rvs_cgf.proofs.Validity.{groups_good}
use Rattle.rvs_test.specs.Made.{claims_of, text_of_label}
use Rattle.rvs_test.specs.Named.{claims_read, named_claim}
use Rattle.rvs_test.proofs.ReadBack.{back_there}
use Rattle.rvs_test.proofs.Joined.{accounted}
use Rattle.rvs_inputs.specs.Specification.{said_in}
use Rattle.rvs_inputs.specs.GroupFiles.{Inputs, and_then, text_in, checked_groups, tree_groups}
use Rattle.rvs_inputs.specs.GroupFiles.{groups_found, inputs_of, inputs_in}
use Rattle.rvs_generate.specs.TestedInputs.{lacks_room, unless_for, with_room, tested_in, labels_in}
use Rattle.rvs_inputs.specs.GroupFiles.{parted_inputs}
use Rattle.rvs_generate.specs.Testable.{IsTestable, IsTestableIfSelected}
use Rattle.rvs_parts.specs.Parts.{PartValue}
use Rattle.rvs_generate.specs.Tests.{IsRunnable, tests_of}
use Rattle.rvs_promises.specs.Tested.{AreTested}
use Rattle.rvs_generate.specs.declared.gathering.Test.{Test}
use Rattle.rvs_promises.proofs.PointLines.{has-lines}
use Rattle.rvs_promises.proofs.Meanings.{says-of}
use Rattle.rvs_generate.proofs.Runnable.{whole, runs-label, runnable-all}
use Rattle.rvs_generate.proofs.Testable.{all-testable}
use Rattle.rvs_inputs.proofs.PartsKept.{all-parted}

-- ---- the labels that are read are valid
pub record IsGood (inputs : Inputs) : Type 0 where
  pub valid : All (IsValidIfSelected inputs.isa) inputs.groups

good-checked : (isa : Isa) (families : Families) (tree : Data) (r : Result (List Label) Refusal)
    → groups_of isa families tree ≡ r → IfOk (inputs_of isa (checked_groups r)) IsGood
good-checked isa families tree (Ok ls) is = record { valid = groups_good isa families tree ls is }
good-checked isa families tree (Err refusal) is = tt

good-tree : (isa : Isa) (families : Families) (a : Parsed)
    → IfOk (inputs_of isa (tree_groups isa families a)) IsGood
good-tree isa families a = search (rules, good-checked)

good-text : (isa : Isa) (families : Families) (r : Result (List ℕ) Stop)
    → IfOk (and_then r (λ text. inputs_of isa (groups_found isa families text))) IsGood
good-text isa families r = search (rules, good-tree)

good-said : (files : Files) (families : Families) (names : List (List ℕ))
    (r : Result AcceptedSpec Stop)
    → IfOk (and_then r (λ said. and_then (text_in files None names)
    (λ text. inputs_of said.spec (groups_found said.spec families text)))) IsGood
good-said files families names (Ok said) = good-text said.spec families (text_in files None names)
good-said files families names (Err stop) = tt

pub good-inputs : (files : Files) (isa : List ℕ) (families : Families) (names : List (List ℕ))
    (inputs : Inputs)
    → inputs_in files isa families names ≡ Ok inputs → IsGood inputs
good-inputs files isa families names inputs given =
    subst (λ (r : Result Inputs Stop). IfOk r IsGood) given
    (good-said files families names (said_in files isa))

-- ---- the core has room for text and data
abbrev pub IsPlaced : Inputs → Type 0
IsPlaced inputs = HasRoom inputs.isa.memory

placed-text : (isa : Isa) (families : Families) (r : Result (List ℕ) Stop) → HasRoom isa.memory
    → IfOk (and_then r (λ text. inputs_of isa (groups_found isa families text))) IsPlaced
placed-text isa families r room = grind arith

placed-said : (files : Files) (isa : List ℕ) (families : Families) (names : List (List ℕ))
    (r : Result AcceptedSpec Stop) → said_in files isa ≡ r
    → IfOk (and_then r (λ said. and_then (text_in files None names)
    (λ text. inputs_of said.spec (groups_found said.spec families text)))) IsPlaced
placed-said files isa families names (Ok said) is =
    let says = says-of files isa said is in
    placed-text said.spec families (text_in files None names)
    (accepted_have_room says.tree said says.accepted)
placed-said files isa families names (Err stop) is = tt

pub placed-inputs : (files : Files) (isa : List ℕ) (families : Families) (names : List (List ℕ))
    (inputs : Inputs) → inputs_in files isa families names ≡ Ok inputs → IsPlaced inputs
placed-inputs files isa families names inputs given =
    subst (λ (r : Result Inputs Stop). IfOk r IsPlaced) given
    (placed-said files isa families names (said_in files isa) refl)

-- ---- and for the test of each label
pub record AreTestable (inputs : Inputs) : Type 0 where
  pub place : HasRoom inputs.isa.memory
  pub each : All (IsTestableIfSelected inputs.isa) inputs.groups

testable-by : (inputs : Inputs) (o : Option Label) → IsGood inputs → IsPlaced inputs
    → find (lacks_room inputs.isa) inputs.groups ≡ o → IfOk (unless_for inputs o) AreTestable
testable-by inputs o good place none = search (rules, all-testable)

testable-found : (r : Result Inputs Stop) → IfOk r IsGood → IfOk r IsPlaced
    → IfOk (and_then r with_room) AreTestable
testable-found r good place = search (rules, testable-by)

testable-in : (files : Files) (isa : List ℕ) (families : Families) (names : List (List ℕ))
    → IfOk (tested_in files isa families names) AreTestable
testable-in files isa families names = grind (arith, testable-found, good-said, placed-said)

testable-part : (part : Option PartValue) (r : Result Inputs Stop) → IfOk r AreTestable
    → IfOk (and_then r (λ inputs. Ok (parted_inputs part inputs))) AreTestable
testable-part part (Ok inputs) all = record {
  place = all.place;
  each = all-parted (IsTestableIfSelected inputs.isa) part 0 inputs.groups all.each;
}
testable-part part (Err stop) all = tt

pub testable-labels : (files : Files) (part : Option PartValue) (isa : List ℕ)
    (families : Families) (names : List (List ℕ)) (inputs : Inputs)
    → labels_in files part isa families names ≡ Ok inputs → AreTestable inputs
testable-labels files part isa families names inputs given =
    subst (λ (r : Result Inputs Stop). IfOk r AreTestable) given
    (testable-part part (tested_in files isa families names)
    (testable-in files isa families names))

pub valid-good : (inputs : Inputs) (l : Label) → IsGood inputs → Contains inputs.groups l
    → IsTrue l.selected → IsValid inputs.isa l
valid-good inputs l good there selected = grind arith

testable-of : (inputs : Inputs) (l : Label) → AreTestable inputs → Contains inputs.groups l
    → IsTrue l.selected → IsTestable inputs.isa l
testable-of inputs l all there selected = grind arith

-- ---- what its text claims is read back
reads-label : (isa : Isa) → HasRoom isa.memory → (l : Label) (text : List ℕ) → IsValid isa l
    → text_of_label isa l ≡ Some text
    → claims_read text ≡ Some (map (named_claim l) (claims_of isa l))
reads-label isa place l text valid is = grind (arith, back_there, whole)

-- ---- of all that is made of accepted inputs
tested-all : (inputs : Inputs) → AreTestable inputs → AreTested inputs
tested-all inputs all = record {
  valid = λ l there selected. (testable-of inputs l all there selected).valid;
  runs = λ l text there selected is.
      runs-label inputs.isa l text (testable-of inputs l all there selected) is;
  read = λ l text there selected is.
      reads-label inputs.isa all.place l text (testable-of inputs l all there selected).valid is;
  accounted = λ l k there within. accounted inputs.isa l k within;
  lines = λ l there selected. has-lines inputs.isa l;
}

pub tested-labels : (files : Files) (part : Option PartValue) (isa : List ℕ) (families : Families)
    (names : List (List ℕ)) (inputs : Inputs)
    → labels_in files part isa families names ≡ Ok inputs → AreTested inputs
tested-labels files part isa families names inputs given =
    tested-all inputs (testable-labels files part isa families names inputs given)

-- ---- each can be run
pub runnable-labels : (files : Files) (part : Option PartValue) (isa : List ℕ) (families : Families)
    (names : List (List ℕ)) (inputs : Inputs)
    → labels_in files part isa families names ≡ Ok inputs → (test : Test)
    → Contains (tests_of inputs.isa inputs.groups) test → IsRunnable inputs.isa test
runnable-labels files part isa families names inputs given test there =
    All-contains (IsRunnable inputs.isa) (tests_of inputs.isa inputs.groups) test
    (runnable-all inputs.isa inputs.groups
    (testable-labels files part isa families names inputs given).each) there
