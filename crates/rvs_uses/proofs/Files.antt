-- What a file is of which an input's part is accepted, too long or absent, and of an ISA file.
use Rattle.std.proofs.Common.{◌≡◌, inl, inr, ℕ, ◌≤◌, Bool, true, false, nat_lt, List, length}
use Rattle.std.proofs.Common.{if◌then◌else◌, Option, Some, None, Result, Ok, Err, refl, sym, ap}
use Rattle.std.proofs.Common.{◌⊎◌, ◌∙◌}
use Rattle.std.proofs.lemmas.Bool.{ltb-true}
use Rattle.rvs_base.specs.Host.{Files}
use Rattle.rvs_plan.specs.Inputs.{part_end, too_long_text}
use Rattle.rvs_plan.specs.Refusing.{input_text}
use Rattle.rvs_plan.specs.declared.stop.Stop.{Stop}
use Rattle.rvs_plan.specs.declared.stop.Stop.TheVariants.{Refused, NoFile}
use Rattle.rvs_plan.proofs.FoundInputs.{found-none, found-long, found-whole}
use Rattle.rvs_plan.specs.declared.status.Status.{Status}
use Rattle.rvs_plan.specs.declared.status.Status.TheVariants as answer
use Rattle.rvs_tree.specs.Data.{Data}
use Rattle.rvs_yaml.specs.Parsed.{Parsed, answer as parsed}
use Rattle.rvs_isa.specs.Check.{checked}
use Rattle.rvs_isa.specs.Print.{refusal_text}
use Rattle.rvs_isa.specs.declared.accepted_spec.AcceptedSpec.{AcceptedSpec}
use Rattle.rvs_isa.specs.declared.refusal.IsaRefusal.{IsaRefusal}
use Rattle.rvs_promises.specs.Says.{Says}
use Rattle.rvs_inputs.specs.Specification.{isa_limit, yaml_text, checked_end, tree_end, bytes_said}
use Rattle.rvs_inputs.specs.Specification.{said_in}
use Rattle.rvs_promises.proofs.Meanings.{whole-of}
use Rattle.rvs_uses.specs.Limits.{PassesLimit}
use Rattle.rvs_uses.specs.Says.{IsRefused}

-- ---- the bytes of a file
pub record IsLong (limit : ℕ) (name : List ℕ) (found : Option (List ℕ)) (text : List ℕ) : Type
    0 where
  pub bytes : List ℕ
  pub there : found ≡ Some bytes
  pub long : PassesLimit limit name bytes text

long-by : (limit : ℕ) (name b text : List ℕ) (long : Bool) → nat_lt limit (length b) ≡ long
    → (if long then Err (Refused (too_long_text name limit)) else Ok b) ≡ Err (Refused text)
    → IsLong limit name (Some b) text
long-by limit name b text true l is =
    let e : Err (Refused (too_long_text name limit)) ≡ Err (Refused text) = is in
    let same : too_long_text name limit ≡ text = cc in
    record {
      bytes = b;
      there = refl;
      long = record { longer = ltb-true limit (length b) l; text_is = sym same };
    }
long-by limit name b text false l is =
    let no : Ok b ≡ Err (Refused text) = is in absurd cc

pub long-of : (limit : ℕ) (name : List ℕ) (found : Option (List ℕ)) (text : List ℕ)
    → part_end limit name name limit found ≡ Err (Refused text) → IsLong limit name found text
long-of limit name None text is = absurd cc
long-of limit name (Some b) text is =
    long-by limit name b text (nat_lt limit (length b)) refl is

none-by : (limit : ℕ) (name b n : List ℕ) (long : Bool)
    → (if long then Err (Refused (too_long_text name limit)) else Ok b) ≡ Err (NoFile n) → ⊥
none-by limit name b n true is =
    let no : Err (Refused (too_long_text name limit)) ≡ Err (NoFile n) = is in cc
none-by limit name b n false is = let no : Ok b ≡ Err (NoFile n) = is in cc

pub none-of : (limit : ℕ) (name : List ℕ) (found : Option (List ℕ)) (n : List ℕ)
    → part_end limit name name limit found ≡ Err (NoFile n) → (n ≡ name) × (found ≡ None)
none-of limit name None n is = let same : name ≡ n = cc in (sym same, refl)
none-of limit name (Some b) n is = absurd (none-by limit name b n (nat_lt limit (length b)) is)

pub long-in : (limit : ℕ) (files : Files) (name bytes text : List ℕ) → files name ≡ Some bytes
    → PassesLimit limit name bytes text
    → part_end limit name name limit (files name) ≡ Err (Refused text)
long-in limit files name bytes text there p = found-long limit files name bytes there p.longer
    ∙ ap (λ (t : List ℕ). Err (Refused t)) (sym p.text_is)

-- ---- an ISA file
pub says-in : (files : Files) (name : List ℕ) (said : AcceptedSpec) → Says files name said
    → said_in files name ≡ Ok said
says-in files name said s =
    ap (bytes_said name) (found-whole isa_limit files name s.bytes s.there s.within)
    ∙ ap (tree_end name) s.has_tree
    ∙ ap (checked_end name) s.accepted

pub isa-refused-in : (files : Files) (name text : List ℕ) → IsRefused files name text
    → said_in files name ≡ Err (Refused text)
isa-refused-in files name text r = elim r.reason [
  | inl long ↦ ap (bytes_said name) (long-in isa_limit files name r.bytes text r.there long)
  | inr more ↦ elim more [
    | inl none ↦ ap (bytes_said name) (found-whole isa_limit files name r.bytes r.there none.within)
        ∙ ap (tree_end name) none.fault ∙ ap (λ (t : List ℕ). Err (Refused t)) (sym none.text_is)
    | inr fails ↦
        ap (bytes_said name) (found-whole isa_limit files name r.bytes r.there fails.within)
        ∙ ap (tree_end name) fails.has_tree ∙ ap (checked_end name) fails.failed
        ∙ ap (λ (t : List ℕ). Err (Refused t)) (sym fails.text_is)
  ]
]

pub isa-absent-in : (files : Files) (name : List ℕ) → files name ≡ None
    → said_in files name ≡ Err (NoFile name)
isa-absent-in files name none = ap (bytes_said name) (found-none isa_limit files name none)

-- where the tree of a file that is there is refused
check-by : (files : Files) (name bytes text : List ℕ) (tree : Data)
    (r : Result AcceptedSpec IsaRefusal) → files name ≡ Some bytes → length bytes ≤ isa_limit
    → parsed bytes ≡ Ok tree → checked tree ≡ r → checked_end name r ≡ Err (Refused text)
    → IsRefused files name text
check-by files name bytes text tree (Ok said) there within has failed is = absurd cc
check-by files name bytes text tree (Err refusal) there within has failed is =
    let e : Err (Refused (input_text name (refusal_text refusal))) ≡ Err (Refused text) = is in
    let same : input_text name (refusal_text refusal) ≡ text = cc in
    record {
      bytes = bytes;
      there = there;
      reason = inr (inr (record {
        within = within;
        tree = tree;
        has_tree = has;
        refusal = refusal;
        failed = failed;
        text_is = sym same;
      }));
    }

tree-by : (files : Files) (name bytes text : List ℕ) (p : Parsed) → files name ≡ Some bytes
    → length bytes ≤ isa_limit → parsed bytes ≡ p → tree_end name p ≡ Err (Refused text)
    → IsRefused files name text
tree-by files name bytes text (Ok tree) there within has is =
    check-by files name bytes text tree (checked tree) there within has refl is
tree-by files name bytes text (Err (line, kind)) there within has is =
    let e : Err (Refused (yaml_text name line kind)) ≡ Err (Refused text) = is in
    let same : yaml_text name line kind ≡ text = cc in
    record {
      bytes = bytes;
      there = there;
      reason = inr (inl (record {
        within = within;
        line = line;
        kind = kind;
        fault = has;
        text_is = sym same;
      }));
    }

refused-bytes : (files : Files) (name text : List ℕ) (r : Result (List ℕ) Stop)
    → part_end isa_limit name name isa_limit (files name) ≡ r
    → bytes_said name r ≡ Err (Refused text) → IsRefused files name text
refused-bytes files name text (Ok bytes) found is =
    let p = whole-of isa_limit name (files name) bytes found in
    tree-by files name bytes text (parsed bytes) p.0 p.1 refl is
refused-bytes files name text (Err stop) found is =
    let e : Err stop ≡ Err (Refused text) = is in
    let same : stop ≡ Refused text = cc in
    let l = long-of isa_limit name (files name) text
    (found ∙ ap (λ (s : Stop). Err s) same) in
    record { bytes = l.bytes; there = l.there; reason = inl l.long }

pub isa-refused-of : (files : Files) (name text : List ℕ)
    → said_in files name ≡ Err (Refused text) → IsRefused files name text
isa-refused-of files name text is =
    refused-bytes files name text (part_end isa_limit name name isa_limit (files name)) refl is

never-checked : (name n : List ℕ) (r : Result AcceptedSpec IsaRefusal)
    → checked_end name r ≡ Err (NoFile n) → ⊥
never-checked name n (Ok said) is = cc
never-checked name n (Err refusal) is = cc

never-tree : (name n : List ℕ) (p : Parsed) → tree_end name p ≡ Err (NoFile n) → ⊥
never-tree name n (Ok tree) is = never-checked name n (checked tree) is
never-tree name n (Err fault) is = cc

absent-bytes : (name n : List ℕ) (r : Result (List ℕ) Stop)
    → bytes_said name r ≡ Err (NoFile n) → r ≡ Err (NoFile n)
absent-bytes name n (Ok bytes) is = absurd (never-tree name n (parsed bytes) is)
absent-bytes name n (Err stop) is =
    let e : Err stop ≡ Err (NoFile n) = is in
    let same : stop ≡ NoFile n = cc in ap (λ (s : Stop). Err s) same

pub isa-absent-of : (files : Files) (name n : List ℕ) → said_in files name ≡ Err (NoFile n)
    → (n ≡ name) × (files name ≡ None)
isa-absent-of files name n is = none-of isa_limit name (files name) n
    (absent-bytes name n (part_end isa_limit name name isa_limit (files name)) is)

-- ---- a command that has no verdict
pub only-done : {status : Status} → (status ≡ answer.Done) ⊎ (status ≡ answer.NotPassed)
    ⊎ (status ≡ answer.NoMemory) → (status ≡ answer.NotPassed → ⊥)
    → (status ≡ answer.Done) ⊎ (status ≡ answer.NoMemory)
only-done (inl is) never = inl is
only-done (inr (inl is)) never = absurd (never is)
only-done (inr (inr is)) never = inr is
