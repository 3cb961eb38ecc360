-- What parts of a list are together.
use Rattle.std.specs.Prelude.{◌≡◌, ◌≤◌, ◌↔◌, ℕ, zero, suc, ◌+◌, Bool, true, List, [], ◌∷◌, map}
use Rattle.std.specs.Prelude.{Option, Some, None, Contains, slice_get}
use Rattle.std.specs.List.{list_all}
use Rattle.rvs_parts.specs.Parts.{PartValue, has, parted}

-- a place is in the part of one number, from 1 to that of the parts, and in no other
pub record IsInOne (of place : ℕ) : Type 0 where
  pub at : ℕ
  pub low : 1 ≤ at
  pub high : at ≤ of
  pub here : has (record { at = at; of = of }) place ≡ true
  pub only : (other : ℕ) → has (record { at = other; of = of }) place ≡ true → other ≡ at

abbrev pub EachIsInOne : Type 0
EachIsInOne = (of place : ℕ) → 1 ≤ of → IsInOne of place

-- a number of each part, added up for the parts to this one
abbrev pub in_parts : ℕ → (ℕ → ℕ) → ℕ
in_parts zero number = 0
in_parts (suc at) number = number (suc at) + in_parts at number

-- the sum of a number over a list
abbrev pub over : {X : Type 0} → (X → ℕ) → List X → ℕ
over f [] = 0
over f (x ∷ xs) = f x + over f xs

-- so much is in one part
abbrev pub in_part : {X : Type 0} → (X → ℕ) → List X → ℕ → ℕ → ℕ
in_part f xs of at = over f (parted (Some (record { at = at; of = of })) xs)

abbrev pub PartsAddUp : Type 0 → Type 0
PartsAddUp X = (f : X → ℕ) (xs : List X) (of : ℕ) → 1 ≤ of
    → in_parts of (in_part f xs of) ≡ over f xs

abbrev pub PartsAreMapped : Type 0 → Type 0
PartsAreMapped X = (f : X → List ℕ) (xs : List X) (p : PartValue)
    → parted (Some p) (map f xs) ≡ map f (parted (Some p) xs)

-- something holds of all things of each part
abbrev pub HoldsInEach : {X : Type 0} → (X → Bool) → List X → ℕ → Type 0
HoldsInEach test xs of =
    (at : ℕ) → 1 ≤ at → at ≤ of
    → list_all test (parted (Some (record { at = at; of = of })) xs) ≡ true

abbrev pub PartsAreAll : Type 0 → Type 0
PartsAreAll X = (test : X → Bool) (xs : List X) (of : ℕ) → 1 ≤ of
    → (list_all test xs ≡ true) ↔ HoldsInEach test xs of

abbrev pub OnePartIsAll : Type 0 → Type 0
OnePartIsAll X = (xs : List X) → (parted (Some (record { at = 1; of = 1 })) xs ≡ xs)
    × (parted None xs ≡ xs)

-- two places of a list have no things of one key
abbrev pub AreApart : {X : Type 0} → (X → List ℕ) → List X → Type 0
AreApart {X} key xs = (i k : ℕ) (x y : X) → slice_get xs i ≡ Some x → slice_get xs k ≡ Some y
    → key x ≡ key y → i ≡ k

-- a thing is in the part of one number, and none of its key is in another
pub record IsInOnePart {X : Type 0} (key : X → List ℕ) (xs : List X) (of : ℕ) (x : X) : Type
    0 where
  pub at : ℕ
  pub low : 1 ≤ at
  pub high : at ≤ of
  pub here : Contains (parted (Some (record { at = at; of = of })) xs) x
  pub only : (other : ℕ) (y : X) → Contains (parted (Some (record { at = other; of = of })) xs) y
      → key y ≡ key x → other ≡ at

abbrev pub ThingsAreInOne : Type 0 → Type 0
ThingsAreInOne X = (key : X → List ℕ) (xs : List X) (of : ℕ) (x : X) → 1 ≤ of → AreApart key xs
    → Contains xs x → IsInOnePart key xs of x

-- a part has no thing that the whole doesn't have
abbrev pub PartsHaveNoMore : Type 0 → Type 0
PartsHaveNoMore X = (part : Option PartValue) (xs : List X) (x : X) → Contains (parted part xs) x
    → Contains xs x
