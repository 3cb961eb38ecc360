-- Each thing of a list is in one part.
use Rattle.std.proofs.Common.{◌≡◌, ◌⊎◌, inl, inr, ℕ, zero, suc, ◌+◌, Bool, true, false}
use Rattle.std.proofs.Common.{cond, List, [], ◌∷◌, Option, Some, Contains, slice_get}
use Rattle.std.proofs.Common.{sym, ap, ◌∙◌, arith, rules}
use Rattle.rvs_parts.specs.Parts.{PartValue, has, is_in, parted_from}
use Rattle.rvs_parts.specs.Laws.{ThingsAreInOne, PartsHaveNoMore}
use Rattle.rvs_parts.proofs.Adding.{each_is_in_one}

-- ---- a thing of a list has a place
first-or-later : {X : Type 0} (y : X) (ys : List X) (x : X) → Contains (y ∷ ys) x
    → (y ≡ x) ⊎ Contains ys x
first-or-later y = grind arith

at-first : {X : Type 0} (y : X) (ys : List X) (x : X) → y ≡ x → Contains (y ∷ ys) x
at-first y ys x is = (zero, omega arith, is)

at-later : {X : Type 0} (y : X) (ys : List X) (x : X) → Contains ys x → Contains (y ∷ ys) x
at-later y ys x (k, within, is) = (suc k, omega (arith, within), is)

-- the thing at a place of a list
abbrev HasPlace : {X : Type 0} → List X → X → Type 0
HasPlace xs x = (k : ℕ) × (slice_get xs k ≡ Some x)

place-of : {X : Type 0} (xs : List X) (x : X) → Contains xs x → HasPlace xs x
place-of [] x (k, within, is) = absurd (omega (arith, within))
place-of (y ∷ ys) x h = elim (first-or-later y ys x h) [
  | inl is ↦ (zero, ap Some is)
  | inr later ↦ (let p = place-of ys x later in (suc p.0, p.1))
]

-- ---- in a part
-- the thing stands at a place of the list that is in the part
abbrev StandsIn : {X : Type 0} → Option PartValue → ℕ → List X → X → Type 0
StandsIn part place xs x = (k : ℕ) × (slice_get xs k ≡ Some x) × (is_in part (place + k) ≡ true)

from-here : (place : ℕ) → place ≡ place + 0
from-here place = omega arith

one-on : (place k : ℕ) → place + 1 + k ≡ place + suc k
one-on place k = omega arith

stands-by : {X : Type 0} (part : Option PartValue) (place : ℕ) (y : X) (ys : List X) (x : X)
    (b : Bool) → is_in part place ≡ b
    → (Contains (parted_from part (place + 1) ys) x → StandsIn part (place + 1) ys x)
    → Contains (cond b (y ∷ parted_from part (place + 1) ys) (parted_from part (place + 1) ys)) x
    → StandsIn part place (y ∷ ys) x
stands-by part place y ys x true here later h =
    elim (first-or-later y (parted_from part (place + 1) ys) x h) [
      | inl is ↦ (zero, ap Some is, ap (λ (n : ℕ). is_in part n) (sym (from-here place)) ∙ here)
      | inr rest ↦
          (let s = later rest in
          (suc s.0, s.1, ap (λ (n : ℕ). is_in part n) (sym (one-on place s.0)) ∙ s.2))
    ]
stands-by part place y ys x false here later h =
    let s = later h in
    (suc s.0, s.1, ap (λ (n : ℕ). is_in part n) (sym (one-on place s.0)) ∙ s.2)

stands : {X : Type 0} (part : Option PartValue) (place : ℕ) (xs : List X) (x : X)
    → Contains (parted_from part place xs) x → StandsIn part place xs x
stands part place [] x (k, within, is) = absurd (omega (arith, within))
stands part place (y ∷ ys) x h = search (rules, stands-by, (stands part (place + 1) ys x))

kept-first : {X : Type 0} (y : X) (rest : List X) (x : X) (b : Bool) → b ≡ true → y ≡ x
    → Contains (cond b (y ∷ rest) rest) x
kept-first y rest = grind arith

kept-later : {X : Type 0} (y : X) (rest : List X) (x : X) (b : Bool) → Contains rest x
    → Contains (cond b (y ∷ rest) rest) x
kept-later y rest x true h = at-later y rest x h
kept-later y rest x false h = h

inside : {X : Type 0} (part : Option PartValue) (place : ℕ) (xs : List X) (x : X) (k : ℕ)
    → slice_get xs k ≡ Some x → is_in part (place + k) ≡ true
    → Contains (parted_from part place xs) x
inside part place [] x k is here = absurd cc
inside part place (y ∷ ys) x zero is here = grind (arith, kept-first, from-here)
inside part place (y ∷ ys) x (suc k) is here =
    kept-later y (parted_from part (place + 1) ys) x (is_in part place)
    (inside part (place + 1) ys x k is (ap (λ (n : ℕ). is_in part n) (one-on place k) ∙ here))

there : {X : Type 0} (xs : List X) (x : X) (k : ℕ) → slice_get xs k ≡ Some x → Contains xs x
there [] x k is = absurd cc
there (y ∷ ys) x zero is = let same : y ≡ x = cc in at-first y ys x same
there (y ∷ ys) x (suc k) is = at-later y ys x (there ys x k is)

pub parts_have_no_more : {X : Type 0} → PartsHaveNoMore X
parts_have_no_more part xs x h = let s = stands part 0 xs x h in there xs x s.0 s.1

-- ---- in one
from-none : (k : ℕ) → 0 + k ≡ k
from-none k = omega arith

pub things_are_in_one : {X : Type 0} → ThingsAreInOne X
things_are_in_one key xs of x some apart h =
    let p = place-of xs x h in
    let one = each_is_in_one of p.0 some in
    record {
      at = one.at;
      low = one.low;
      high = one.high;
      here = inside (Some (record { at = one.at; of = of })) 0 xs x p.0 p.1
          (ap (λ (n : ℕ). has (record { at = one.at; of = of }) n) (from-none p.0) ∙ one.here);
      only = λ other y within same.
          let s = stands (Some (record { at = other; of = of })) 0 xs y within in
          let place : s.0 ≡ p.0 = apart s.0 p.0 y x s.1 p.1 same in
          one.only other (sym (ap (λ (n : ℕ). has (record { at = other; of = of }) n)
          (from-none s.0 ∙ place)) ∙ s.2);
    }
