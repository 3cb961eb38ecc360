-- That two parts of a run have no test, and no file, in common.
use Rattle.std.proofs.Common.{◌≡◌, ◌≢◌, ◌≤◌, inl, inr, ℕ, zero, suc, Bool, true, false}
use Rattle.std.proofs.Common.{cond, List, [], ◌∷◌, Contains, Option, Some}
use Rattle.std.proofs.Common.{None, slice_get, bytes_eq}
use Rattle.std.proofs.Common.{codes, refl, sym, ap, subst, ◌∙◌, arith}
use Rattle.std.specs.Prelude.{◌&&◌, ◌||◌, not}
use Rattle.std.specs.List.{list_any}
use Rattle.std.proofs.lemmas.List.Elements.{Contains-append_left, Contains-append_right}
use Rattle.std.proofs.lemmas.List.Elements.{Contains-append_cases}
use Rattle.std.proofs.lemmas.Slice.Eq.{bytes_eq-Decides}
use Rattle.rvs_parts.specs.Parts.{parted}
use Rattle.rvs_parts.specs.Laws.{AreApart}
use Rattle.rvs_parts.proofs.Sharing.{things_are_in_one, parts_have_no_more}
use Rattle.rvs_insn.specs.Isa.{Isa}
use Rattle.rvs_cgf.specs.Groups.{Label}
use Rattle.rvs_normal.specs.Again.{names_are_apart}
use Rattle.rvs_test.specs.Made.{cases_of, text_of_label}
use Rattle.rvs_test_text.specs.TestText.{step_limit}
use Rattle.rvs_inputs.specs.GroupFiles.{Inputs}
use Rattle.rvs_generate.specs.Tests.{test_with, tests_of_label, tests_of}
use Rattle.rvs_generate.specs.declared.gathering.Test.{Test}
use Rattle.rvs_generate.proofs.Paths.{same-ending, not-reference, not-executable}
use Rattle.rvs_generate.proofs.Paths.{reference-not-executable, device-not-executable, not-device}
use Rattle.rvs_generate.proofs.Paths.{apart-signatures}
use Rattle.rvs_promises.proofs.Written.{apart-labels}
use Rattle.rvs_uses.specs.Parted.{part_of, label_name, tests_in_part, IsInOne}
use Rattle.rvs_uses.specs.Parted.{IsFileOf, IsText, IsExecutable, IsReference, IsDevice}
use Rattle.rvs_uses.specs.Parted.{PartsAreApart}

-- ---- names tell the labels apart
not-any : (name : List ℕ) (ls : List Label) (k : ℕ) (m : Label)
    → list_any (λ (x : Label). bytes_eq name x.name) ls ≡ false → slice_get ls k ≡ Some m
    → name ≡ m.name → ⊥
not-any name [] k m others is same = absurd cc
not-any name (l ∷ ls) zero m others is same =
    let e : l ≡ m = cc in
    let first : bytes_eq name l.name ≡ true =
    (bytes_eq-Decides name l.name).1 (same ∙ sym (ap label_name e)) in
    by-first (bytes_eq name l.name) first others
  where
    by-first : (b : Bool) → b ≡ true
        → (b || list_any (λ (x : Label). bytes_eq name x.name) ls) ≡ false → ⊥
    by-first true is others = cc
    by-first false is others = cc
not-any name (l ∷ ls) (suc k) m others is same =
    by-first (bytes_eq name l.name) others (λ later. not-any name ls k m later is same)
  where
    by-first : (b : Bool)
        → (b || list_any (λ (x : Label). bytes_eq name x.name) ls) ≡ false
        → (list_any (λ (x : Label). bytes_eq name x.name) ls ≡ false → ⊥) → ⊥
    by-first true others later = cc
    by-first false others later = later others

first-own : (a b : Bool) → (not a && b) ≡ true → a ≡ false
first-own true b is = absurd cc
first-own false b is = refl

rest-own : (a b : Bool) → (not a && b) ≡ true → b ≡ true
rest-own true b is = absurd cc
rest-own false b is = is

names-apart : (ls : List Label) → names_are_apart ls ≡ true → AreApart label_name ls
names-apart [] apart i k x y here there same = absurd cc
names-apart (l ∷ ls) apart zero zero x y here there same = refl
names-apart (l ∷ ls) apart zero (suc k) x y here there same =
    let e : l ≡ x = cc in
    absurd (not-any l.name ls k y
    (first-own (list_any (λ (m : Label). bytes_eq l.name m.name) ls) (names_are_apart ls) apart)
    there (ap label_name e ∙ same))
names-apart (l ∷ ls) apart (suc i) zero x y here there same =
    let e : l ≡ y = cc in
    absurd (not-any l.name ls i x
    (first-own (list_any (λ (m : Label). bytes_eq l.name m.name) ls) (names_are_apart ls) apart)
    here (ap label_name e ∙ sym same))
names-apart (l ∷ ls) apart (suc i) (suc k) x y here there same =
    ap suc (names-apart ls
    (rest-own (list_any (λ (m : Label). bytes_eq l.name m.name) ls) (names_are_apart ls) apart)
    i k x y here there same)

-- ---- a test is that of a label of its name
record IsOfLabel (isa : Isa) (ls : List Label) (test : Test) : Type 0 where
  label : Label
  among : Contains ls label
  its : Contains (tests_of_label isa label) test
  named : test.name ≡ label.name

first-one : (t : Test) (test : Test) → Contains (t ∷ []) test → t ≡ test
first-one t test (zero, within, is) = is
first-one t test (suc k, within, is) = absurd (omega (arith, within))

pub none-has : {X : Type 0} (x : X) → Contains [] x → ⊥
none-has x (k, within, is) = omega (arith, within)

named-by : (name : List ℕ) (steps : ℕ) (text : Option (List ℕ)) (test : Test)
    → Contains (test_with name steps text) test → test.name ≡ name
named-by name steps None test h = absurd (none-has test h)
named-by name steps (Some text) test h =
    sym (ap (λ (t : Test). t.name) (first-one (record {
      name = name;
      text = text;
      steps = steps;
    }) test h))

named-if : (b : Bool) (name : List ℕ) (steps : ℕ) (text : Option (List ℕ)) (test : Test)
    → Contains (cond b (test_with name steps text) []) test → test.name ≡ name
named-if true name steps text test h = named-by name steps text test h
named-if false name steps text test h = absurd (none-has test h)

own-name : (isa : Isa) (l : Label) (test : Test) → Contains (tests_of_label isa l) test
    → test.name ≡ l.name
own-name isa l test h =
    named-if l.selected l.name (step_limit (cases_of isa l)) (text_of_label isa l) test h

later-label : {X : Type 0} (y : X) (ys : List X) (x : X) → Contains ys x → Contains (y ∷ ys) x
later-label y ys x (k, within, is) = (suc k, omega (arith, within), is)

of-label : (isa : Isa) (ls : List Label) (test : Test) → Contains (tests_of isa ls) test
    → IsOfLabel isa ls test
of-label isa [] test h = absurd (none-has test h)
of-label isa (l ∷ ls) test h =
    elim (Contains-append_cases (tests_of_label isa l) (tests_of isa ls) test h) [
      | inl here ↦ record {
        label = l;
        among = (zero, omega arith, refl);
        its = here;
        named = own-name isa l test here;
      }
      | inr later ↦
          (let o = of-label isa ls test later in
          record {
            label = o.label;
            among = later-label l ls o.label o.among;
            its = o.its;
            named = o.named;
          })
    ]

has-tests : (isa : Isa) (ls : List Label) (l : Label) (test : Test) → Contains ls l
    → Contains (tests_of_label isa l) test → Contains (tests_of isa ls) test
has-tests isa [] l test there its = absurd (none-has l there)
has-tests isa (m ∷ ls) l test (zero, within, is) its =
    Contains-append_left (tests_of_label isa m) (tests_of isa ls) test
    (subst (λ (x : Label). Contains (tests_of_label isa x) test) (sym is) its)
has-tests isa (m ∷ ls) l test (suc k, within, is) its =
    Contains-append_right (tests_of_label isa m) (tests_of isa ls) test
    (has-tests isa ls l test (k, omega (arith, within), is) its)

-- ---- two tests have no file in common
shared : (work : List ℕ) (one other : Test) (name : List ℕ) → one.name ≢ other.name
    → IsFileOf work one name → IsFileOf work other name → ⊥
shared work a b name apart (IsText p) (IsText q) =
    same-ending work a.name b.name (codes ".S") apart (sym p ∙ q)
shared work a b name apart (IsText p) (IsExecutable q) =
    not-executable work a.name b.name (sym p ∙ q)
shared work a b name apart (IsText p) (IsReference q) =
    not-reference work a.name b.name (sym p ∙ q)
shared work a b name apart (IsText p) (IsDevice q) =
    not-device work a.name b.name (sym p ∙ q)
shared work a b name apart (IsExecutable p) (IsText q) =
    not-executable work b.name a.name (sym q ∙ p)
shared work a b name apart (IsExecutable p) (IsExecutable q) =
    same-ending work a.name b.name (codes ".elf") apart (sym p ∙ q)
shared work a b name apart (IsExecutable p) (IsReference q) =
    reference-not-executable work b.name a.name (sym q ∙ p)
shared work a b name apart (IsExecutable p) (IsDevice q) =
    device-not-executable work b.name a.name (sym q ∙ p)
shared work a b name apart (IsReference p) (IsText q) =
    not-reference work b.name a.name (sym q ∙ p)
shared work a b name apart (IsReference p) (IsExecutable q) =
    reference-not-executable work a.name b.name (sym p ∙ q)
shared work a b name apart (IsReference p) (IsReference q) =
    same-ending work a.name b.name (codes ".reference.sig") apart (sym p ∙ q)
shared work a b name apart (IsReference p) (IsDevice q) =
    apart-signatures work a.name b.name (sym p ∙ q)
shared work a b name apart (IsDevice p) (IsText q) =
    not-device work b.name a.name (sym q ∙ p)
shared work a b name apart (IsDevice p) (IsExecutable q) =
    device-not-executable work a.name b.name (sym p ∙ q)
shared work a b name apart (IsDevice p) (IsReference q) =
    apart-signatures work b.name a.name (sym q ∙ p)
shared work a b name apart (IsDevice p) (IsDevice q) =
    same-ending work a.name b.name (codes ".device.sig") apart (sym p ∙ q)

-- ---- the parts of accepted inputs
abbrev in-part : Inputs → ℕ → ℕ → List Label
in-part inputs of at = parted (Some (part_of of at)) inputs.groups

in-one : (inputs : Inputs) (of : ℕ) → 1 ≤ of → AreApart label_name inputs.groups → (test : Test)
    → Contains (tests_of inputs.isa inputs.groups) test → IsInOne inputs of test
in-one inputs of some apart test there =
    let o = of-label inputs.isa inputs.groups test there in
    let one = things_are_in_one label_name inputs.groups of o.label some apart o.among in
    record {
      at = one.at;
      low = one.low;
      high = one.high;
      here = has-tests inputs.isa (in-part inputs of one.at) o.label test one.here o.its;
      only = λ other inside.
          let m = of-label inputs.isa (in-part inputs of other) test inside in
          one.only other m.label m.among (sym m.named ∙ o.named);
    }

part-apart : (inputs : Inputs) (of a b : ℕ) (one other : Test) → 1 ≤ of
    → AreApart label_name inputs.groups → Contains (tests_in_part inputs of a) one
    → Contains (tests_in_part inputs of b) other → one.name ≡ other.name → a ≡ b
part-apart inputs of a b one other some apart here there same =
    let l = of-label inputs.isa (in-part inputs of a) one here in
    let m = of-label inputs.isa (in-part inputs of b) other there in
    let whole = parts_have_no_more (Some (part_of of a)) inputs.groups l.label l.among in
    let it = things_are_in_one label_name inputs.groups of l.label some apart whole in
    it.only a l.label l.among refl
    ∙ sym (it.only b m.label m.among (sym m.named ∙ sym same ∙ l.named))

pub parts-are-apart : PartsAreApart
parts-are-apart files isa families names inputs of given some =
    let apart = names-apart inputs.groups
    (apart-labels files None isa families names inputs given) in
    record {
      labels = λ l there. things_are_in_one label_name inputs.groups of l some apart there;
      tests = in-one inputs of some apart;
      files = λ work name a b one other differ here there first second.
          shared work one other name
          (λ same. differ (part-apart inputs of a b one other some apart here there same))
          first second;
    }
