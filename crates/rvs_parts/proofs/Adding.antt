-- Parts of a list, place by place.
use Rattle.std.proofs.Common.{◌≡◌, ◌≤◌, ◌<◌, ℕ, zero, suc, ◌+◌, ◌%◌, Bool, true, cond}
use Rattle.std.proofs.Common.{List, [], ◌∷◌, Some, None, refl, ap, ◌∙◌, arith, rules}
use Rattle.std.specs.Prelude.{◌==◌, ◌&&◌, map}
use Rattle.std.specs.List.{list_all}
use Rattle.std.proofs.lemmas.Bool.Decides.{nat_tests}
use Rattle.rvs_parts.specs.Parts.{PartValue, has, parted_from}
use Rattle.rvs_parts.specs.Laws.{EachIsInOne, in_parts, over, PartsAddUp}
use Rattle.rvs_parts.specs.Laws.{PartsAreMapped, PartsAreAll, OnePartIsAll}

-- ---- one part
-- what is left of a division is below the divisor
left-low : (of place : ℕ) → 1 ≤ of → place % of + 1 ≤ of
left-low of place some = omega arith

same-true : (n : ℕ) → (n == n) ≡ true
same-true n = grind (arith, nat_tests)

true-same : (n m : ℕ) → (n == m) ≡ true → m ≡ n
true-same n m is = grind (arith, nat_tests)

pub each_is_in_one : EachIsInOne
each_is_in_one of place some = record {
  at = place % of + 1;
  low = omega arith;
  high = left-low of place some;
  here = same-true (place % of + 1);
  only = λ other is. true-same (place % of + 1) other is;
}

-- ---- sums over parts
parts-zero : (of : ℕ) → in_parts of (λ at. 0) ≡ 0
parts-zero zero = refl
parts-zero (suc of) = omega (arith, parts-zero of)

parts-plus : (f g : ℕ → ℕ) (of : ℕ)
    → in_parts of (λ at. f at + g at) ≡ in_parts of f + in_parts of g
parts-plus f g zero = refl
parts-plus f g (suc of) = grind (arith, (parts-plus f g of))

-- one number is counted in its part alone
abbrev picked : ℕ → ℕ → ℕ → ℕ
picked r v at = cond (r == at) v 0

pick-none : (r v : ℕ) (of : ℕ) → of < r → in_parts of (picked r v) ≡ 0
pick-none r v zero low = refl
pick-none r v (suc of) low = grind (arith, (pick-none r v of (omega (arith, low))))

pick-by : (r v of : ℕ) (b : Bool) → (r == suc of) ≡ b → 1 ≤ r → r ≤ suc of
    → (r ≤ of → in_parts of (picked r v) ≡ v) → in_parts (suc of) (picked r v) ≡ v
pick-by r v of b is low high before = search (rules, pick-none)

pick-one : (r v of : ℕ) → 1 ≤ r → r ≤ of → in_parts of (picked r v) ≡ v
pick-one r v zero low high = absurd (omega (arith, low, high))
pick-one r v (suc of) low high =
    pick-by r v of (r == suc of) refl low high (λ below. pick-one r v of low below)

-- what a part has of a list, by whether the first is in it
abbrev part-from : {X : Type 0} → (X → ℕ) → ℕ → List X → ℕ → ℕ → ℕ
part-from f place xs of at = over f (parted_from (Some (record { at = at; of = of })) place xs)

first-by : {X : Type 0} (f : X → ℕ) (x : X) (rest : List X) (b : Bool)
    → over f (cond b (x ∷ rest) rest) ≡ cond b (f x) 0 + over f rest
first-by = grind arith

add-from : {X : Type 0} (f : X → ℕ) (of : ℕ) → 1 ≤ of → (place : ℕ) (xs : List X)
    → in_parts of (part-from f place xs of) ≡ over f xs
add-from f of some place [] = parts-zero of
add-from f of some place (x ∷ xs) =
    let r = place % of + 1 in
    ap (in_parts of) (λ k at. first-by f x
    (parted_from (Some (record { at = at; of = of })) (place + 1) xs) (r == at) k)
    ∙ parts-plus (picked r (f x)) (part-from f (place + 1) xs of) of
    ∙ (λ k. pick-one r (f x) of (omega arith) (left-low of place some) k
    + add-from f of some (place + 1) xs k)

pub parts_add_up : {X : Type 0} → PartsAddUp X
parts_add_up f xs of some = add-from f of some 0 xs

-- ---- what is made of each
map-by : {X Y : Type 0} (f : X → Y) (x : X) (rest : List X) (b : Bool)
    → cond b (f x ∷ map f rest) (map f rest) ≡ map f (cond b (x ∷ rest) rest)
map-by = grind arith

pub mapped_from : {X Y : Type 0} (f : X → Y) (p : PartValue) (place : ℕ) (xs : List X)
    → parted_from (Some p) place (map f xs) ≡ map f (parted_from (Some p) place xs)
mapped_from f p place [] = refl
mapped_from f p place (x ∷ xs) = grind (arith, map-by, (mapped_from f p (place + 1) xs))

pub parts_are_mapped : {X : Type 0} → PartsAreMapped X
parts_are_mapped f xs p = mapped_from f p 0 xs

-- ---- what holds of all
all-by : {X : Type 0} (test : X → Bool) (x : X) (rest : List X) (b : Bool) → test x ≡ true
    → list_all test rest ≡ true → list_all test (cond b (x ∷ rest) rest) ≡ true
all-by test x = grind arith

both-left : (a b : Bool) → (a && b) ≡ true → a ≡ true
both-left a b is = grind arith

both-right : (a b : Bool) → (a && b) ≡ true → b ≡ true
both-right a b is = grind arith

all-from : {X : Type 0} (test : X → Bool) (p : PartValue) (place : ℕ) (xs : List X)
    → list_all test xs ≡ true → list_all test (parted_from (Some p) place xs) ≡ true
all-from test p place [] is = refl
all-from test p place (x ∷ xs) is =
    all-by test x (parted_from (Some p) (place + 1) xs) (has p place)
    (both-left (test x) (list_all test xs) is)
    (all-from test p (place + 1) xs (both-right (test x) (list_all test xs) is))

-- in each part from a place on
abbrev EachFrom : {X : Type 0} → (X → Bool) → ℕ → List X → ℕ → Type 0
EachFrom test place xs of =
    (at : ℕ) → 1 ≤ at → at ≤ of
    → list_all test (parted_from (Some (record { at = at; of = of })) place xs) ≡ true

later-by : {X : Type 0} (test : X → Bool) (x : X) (rest : List X) (b : Bool)
    → list_all test (cond b (x ∷ rest) rest) ≡ true → list_all test rest ≡ true
later-by test = grind arith

here-by : {X : Type 0} (test : X → Bool) (x : X) (rest : List X) (b : Bool) → b ≡ true
    → list_all test (cond b (x ∷ rest) rest) ≡ true → test x ≡ true
here-by test x = grind arith

whole-from : {X : Type 0} (test : X → Bool) (of : ℕ) → 1 ≤ of → (place : ℕ) (xs : List X)
    → EachFrom test place xs of → list_all test xs ≡ true
whole-from test of some place [] each = refl
whole-from test of some place (x ∷ xs) each =
    let r = place % of + 1 in
    let here : test x ≡ true = here-by test x
    (parted_from (Some (record { at = r; of = of })) (place + 1) xs) (r == r) (same-true r)
    (each r (omega arith) (left-low of place some)) in
    ap (λ (t : Bool). t && list_all test xs) here
    ∙ whole-from test of some (place + 1) xs (λ at low high. later-by test x
    (parted_from (Some (record { at = at; of = of })) (place + 1) xs) (r == at)
    (each at low high))

pub parts_are_all : {X : Type 0} → PartsAreAll X
parts_are_all test xs of some = (
  (λ is at low high. all-from test (record { at = at; of = of }) 0 xs is),
  (λ each. whole-from test of some 0 xs each),
)

-- ---- one part of one
all-in : (place : ℕ) → (place % 1 + 1 == 1) ≡ true
all-in place = grind (arith, nat_tests)

one-from : {X : Type 0} (place : ℕ) (xs : List X)
    → parted_from (Some (record { at = 1; of = 1 })) place xs ≡ xs
one-from place [] = refl
one-from place (x ∷ xs) = simp (all-in, (one-from (place + 1) xs))

no-part : {X : Type 0} (place : ℕ) (xs : List X) → parted_from None place xs ≡ xs
no-part place [] = refl
no-part place (x ∷ xs) = ap (λ ys. x ∷ ys) (no-part (place + 1) xs)

pub one_part_is_all : {X : Type 0} → OnePartIsAll X
one_part_is_all xs = (one-from 0 xs, no-part 0 xs)
