-- A part of a list that grows by one.
use Rattle.std.proofs.Common.{◌≡◌, ℕ, ◌+◌, Bool, true, false, cond, List, [], ◌∷◌, ◌++◌, length}
use Rattle.std.proofs.Common.{Option, refl, ap, ◌∙◌, sym, arith, map, suc}
use Rattle.rvs_parts.specs.Parts.{PartValue, is_in, parted, parted_from}
use Rattle.rvs_select.specs.declared.database.Entry.{Entry}
use Rattle.rvs_inputs.specs.DatabaseInput.{marked, marked_from, marked_one}
use Rattle.std.proofs.Common.{if◌then◌else◌, All}
use Rattle.std.proofs.lemmas.List.Elements.{All-cons, All-head, All-tail}

abbrev one-if : {X : Type 0} → Bool → X → List X
one-if b x = cond b (x ∷ []) []

map-in : {X Y : Type 0} (f : X → Y) (b : Bool) (x : X) (rest : List X)
    → cond b (f x ∷ map f rest) (map f rest) ≡ map f (cond b (x ∷ rest) rest)
map-in f true x rest = refl
map-in f false x rest = refl

first-more : {X : Type 0} (b : Bool) (y : X) (rest more : List X)
    → cond b (y ∷ (rest ++ more)) (rest ++ more) ≡ cond b (y ∷ rest) rest ++ more
first-more true y rest more = refl
first-more false y rest more = refl

places : (n m : ℕ) → n + 1 + m ≡ n + suc m
places n m = omega arith

no-place : (n : ℕ) → n ≡ n + 0
no-place n = omega arith

from-none : (n : ℕ) → 0 + n ≡ n
from-none n = omega arith

parted-more : {X : Type 0} (part : Option PartValue) (place : ℕ) (xs : List X) (x : X)
    → parted_from part place (xs ++ x ∷ [])
    ≡ parted_from part place xs ++ one-if (is_in part (place + length xs)) x
parted-more part place [] x = ap (λ (n : ℕ). one-if (is_in part n) x) (no-place place)
parted-more part place (y ∷ xs) x =
    let rest = parted_from part (place + 1) xs in
    ap (λ ys. cond (is_in part place) (y ∷ ys) ys) (parted-more part (place + 1) xs x)
    ∙ first-more (is_in part place) y rest (one-if (is_in part (place + 1 + length xs)) x)
    ∙ ap (λ (n : ℕ). cond (is_in part place) (y ∷ rest) rest ++ one-if (is_in part n) x)
    (places place (length xs))

pub parted_more : {X : Type 0} (part : Option PartValue) (xs : List X) (x : X)
    → parted part xs ++ cond (is_in part (length xs)) (x ∷ []) [] ≡ parted part (xs ++ x ∷ [])
parted_more part xs x =
    ap (λ (n : ℕ). parted part xs ++ one-if (is_in part n) x) (sym (from-none (length xs)))
    ∙ sym (parted-more part 0 xs x)

pub parted_map : {X Y : Type 0} (f : X → Y) (part : Option PartValue) (place : ℕ) (xs : List X)
    → parted_from part place (map f xs) ≡ map f (parted_from part place xs)
parted_map f part place [] = refl
parted_map f part place (x ∷ xs) =
    ap (λ ys. cond (is_in part place) (f x ∷ ys) ys) (parted_map f part (place + 1) xs)
    ∙ map-in f (is_in part place) x (parted_from part (place + 1) xs)

marked-more : (part : Option PartValue) (place : ℕ) (xs : List Entry) (x : Entry)
    → marked_from part place (xs ++ x ∷ [])
    ≡ marked_from part place xs ++ marked_one (is_in part (place + length xs)) x ∷ []
marked-more part place [] x =
    ap (λ (n : ℕ). marked_one (is_in part n) x ∷ []) (no-place place)
marked-more part place (y ∷ xs) x =
    ap (λ ys. marked_one (is_in part place) y ∷ ys) (marked-more part (place + 1) xs x)
    ∙ ap (λ (n : ℕ). marked_one (is_in part place) y
    ∷ (marked_from part (place + 1) xs ++ marked_one (is_in part n) x ∷ []))
    (places place (length xs))

pub marked_more : (part : Option PartValue) (xs : List Entry) (x : Entry)
    → marked part xs ++ marked_one (is_in part (length xs)) x ∷ [] ≡ marked part (xs ++ x ∷ [])
marked_more part xs x =
    ap (λ (n : ℕ). marked part xs ++ marked_one (is_in part n) x ∷ [])
    (sym (from-none (length xs)))
    ∙ sym (marked-more part 0 xs x)

kept-by : {X : Type 0} (P : X → Type 0) (b : Bool) (x : X) (rest : List X) → P x → All P rest
    → All P (if b then x ∷ rest else rest)
kept-by P true x rest first later = All-cons P x rest first later
kept-by P false x rest first later = later

pub all-parted : {X : Type 0} (P : X → Type 0) (part : Option PartValue) (place : ℕ) (xs : List X)
    → All P xs → All P (parted_from part place xs)
all-parted P part place [] all = all
all-parted P part place (x ∷ xs) all =
    kept-by P (is_in part place) x (parted_from part (place + 1) xs) (All-head P x xs all)
    (all-parted P part (place + 1) xs (All-tail P x xs all))
