-- What it means of the files that the inputs of a command are accepted.
use Rattle.std.proofs.Common.{◌≡◌, ◌≤◌, ◌⊎◌, ℕ, Bool, nat_lt, List, length}
use Rattle.std.proofs.Common.{if◌then◌else◌, Option, Some, Result, Ok, Err, refl}
use Rattle.std.proofs.Common.{arith}
use Rattle.rvs_base.specs.Host.{Files}
use Rattle.rvs_plan.specs.Inputs.{part_end, too_long_text}
use Rattle.rvs_plan.specs.declared.stop.Stop.{Stop}
use Rattle.rvs_plan.specs.declared.stop.Stop.TheVariants.{Refused}
use Rattle.rvs_tree.specs.Data.{Data}
use Rattle.rvs_yaml.specs.Parsed.{Parsed, answer}
use Rattle.rvs_insn.specs.Isa.{Isa}
use Rattle.rvs_isa.specs.Check.{checked}
use Rattle.rvs_isa.specs.declared.accepted_spec.AcceptedSpec.{AcceptedSpec}
use Rattle.rvs_isa.specs.declared.refusal.IsaRefusal.{IsaRefusal}
use Rattle.rvs_inputs.specs.GroupFiles.{and_then}
use Rattle.rvs_promises.specs.Halting.{TestHalts, BothHalt}
use Rattle.rvs_reference.specs.Reference.{test_limit}
use Rattle.rvs_promises.specs.Referencing.{trial_in, run_in}
use Rattle.rvs_promises.specs.Says.{Says}
use Rattle.rvs_inputs.specs.Specification.{isa_limit, checked_end, tree_end, bytes_said, said_in}
use Rattle.rvs_reference.specs.TestRun.{image_found, found_end, test_found}
use Rattle.rvs_reference.specs.declared.test_run.Run.{Run}
use Rattle.rvs_promises.proofs.TestEnds.{TestHalts-image}

-- ---- a result and what follows from it
pub then-ok : {A B : Type 0} (found : Result A Stop) (next : A → Result B Stop) (b : B)
    → and_then found next ≡ Ok b → (a : A) × (found ≡ Ok a) × (next a ≡ Ok b)
then-ok h = grind arith

pub then-err : {A B : Type 0} (found : Result A Stop) (next : A → Result B Stop) (stop : Stop)
    → and_then found next ≡ Err stop
    → (found ≡ Err stop) ⊎ ((a : A) × (found ≡ Ok a) × (next a ≡ Err stop))
then-err h = grind arith

-- ---- the bytes of a file
whole-by : (limit : ℕ) (name b bytes : List ℕ) (long : Bool) → nat_lt limit (length b) ≡ long
    → (if long then Err (Refused (too_long_text name limit)) else Ok b) ≡ Ok bytes
    → (Some b ≡ Some bytes) × (length bytes ≤ limit)
whole-by limit name b bytes long l is = grind arith

pub whole-of : (limit : ℕ) (name : List ℕ) (found : Option (List ℕ)) (bytes : List ℕ)
    → part_end limit name name limit found ≡ Ok bytes
    → (found ≡ Some bytes) × (length bytes ≤ limit)
whole-of limit name found bytes is = grind arith

-- ---- an ISA file
said-bytes : (name : List ℕ) (r : Result (List ℕ) Stop) (said : AcceptedSpec)
    → bytes_said name r ≡ Ok said
    → (bytes : List ℕ) × (r ≡ Ok bytes) × (tree_end name (answer bytes) ≡ Ok said)
said-bytes name r said is = grind arith

said-tree : (name : List ℕ) (p : Parsed) (said : AcceptedSpec) → tree_end name p ≡ Ok said
    → (tree : Data) × (p ≡ Ok tree) × (checked_end name (checked tree) ≡ Ok said)
said-tree name p said is = grind arith

said-checked : (name : List ℕ) (r : Result AcceptedSpec IsaRefusal) (said : AcceptedSpec)
    → checked_end name r ≡ Ok said → r ≡ Ok said
said-checked name r said is = grind arith

pub says-of : (files : Files) (name : List ℕ) (said : AcceptedSpec) → said_in files name ≡ Ok said
    → Says files name said
says-of files name said is =
    let b = said-bytes name (part_end isa_limit name name isa_limit (files name)) said is in
    let t = said-tree name (answer b.0) said b.2 in
    let p = whole-of isa_limit name (files name) b.0 b.1 in
    record {
      bytes = b.0;
      there = p.0;
      within = p.1;
      tree = t.0;
      has_tree = t.1;
      accepted = said-checked name (checked t.0) said t.2;
    }

-- ---- a test that is run
pub found-of : {A : Type 0} (r : Result A (List ℕ)) (a : A) → found_end r ≡ Ok a → r ≡ Ok a
found-of h = grind arith

pub halts-of : (files : Files) (steps : Option ℕ) (isa : Isa) (test : List ℕ) (run : Run)
    → trial_in files steps isa test ≡ Ok run → TestHalts files isa test steps run
halts-of files steps isa test run is =
    let t = then-ok (part_end test_limit test test test_limit (files test))
    (λ bytes. found_end (test_found steps isa test bytes)) run is in
    let p = whole-of test_limit test (files test) t.0 t.1 in
    TestHalts-image files isa test steps run t.0 (image_found isa test t.0) p.0 p.1 refl
    (found-of (test_found steps isa test t.0) run t.2)

pub both-halt : (files : Files) (isa test : List ℕ) (steps : Option ℕ) (run : Run)
    → run_in files isa test steps ≡ Ok run → BothHalt files isa test steps run
both-halt files isa test steps run is =
    let t = then-ok (said_in files isa) (λ said. trial_in files steps said.spec test) run is in
    record {
      said = t.0;
      says = says-of files isa t.0 t.1;
      test_halts = halts-of files steps t.0.spec test run t.2;
    }
