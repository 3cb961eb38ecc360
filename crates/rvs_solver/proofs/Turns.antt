-- One turn of a loop that searches, what it keeps and what it costs.
use Rattle.std.proofs.Common.{◌≡◌, ℕ, ◌+◌, ◌<◌, ◌≤◌, Bool, true, false, cond, List, [], ◌∷◌, ◌++◌}
use Rattle.std.proofs.Common.{map, length, get_or, drop, take, Option, Some, None, refl}
use Rattle.std.proofs.Common.{sym, ap, ◌∙◌, arith}
use Rattle.std.specs.Prelude.{find, sum_by}
use Rattle.std.specs.Option.{option_or}
use Rattle.std.proofs.lemmas.List.{map_more, drop_more}
use Rattle.std.proofs.lemmas.List.Folds.{find-append}
use Rattle.std.proofs.lemmas.List.Sums.{sum_by_more, sum_by-take-le}
use Rattle.rvs_solver.specs.declared.operand.Operand.{Operand}
use Rattle.rvs_solver.specs.Choices.{ChoiceValue}
use Rattle.rvs_solver.specs.Walk.{storing_address, own_addresses}

addresses_more : (same : Option ChoiceValue) (xs : List Operand) (i : ℕ) (d : Operand)
    → i < length xs → own_addresses same (take (i + 1) xs)
    ≡ own_addresses same (take i xs) ++ own_addresses same (get_or xs i d ∷ [])
addresses_more None xs i d h = refl
addresses_more (Some c) xs i d h = map_more (storing_address c) xs i d h

pub kept_turn : (p : ChoiceValue → Bool) (same : Option ChoiceValue) (xs : List Operand) (i : ℕ)
    (d : Operand) (kept next : Option ChoiceValue) → i < length xs
    → kept ≡ find p (own_addresses same (take i xs))
    → next ≡ option_or kept (find p (own_addresses same (get_or xs i d ∷ [])))
    → next ≡ find p (own_addresses same (take (i + 1) xs))
kept_turn p same xs i d kept next h inv e =
    e ∙ ap (λ o. option_or o (find p (own_addresses same (get_or xs i d ∷ [])))) inv
    ∙ sym (ap (find p) (addresses_more same xs i d h)
    ∙ find-append p (own_addresses same (take i xs)) (own_addresses same (get_or xs i d ∷ [])))

-- what a search of a whole list finds, it finds before what comes after
pub found_before : {Y : Type 0} (y : Y) (o r : Option Y) → Some y ≡ o → Some y ≡ option_or o r
found_before y o r e = ap (λ q. option_or q r) e

-- a loop that ends early costs no more than the whole
pub within_sum : {X : Type 0} (f : X → ℕ) (xs : List X) (i : ℕ) (d : X) (new before entry : ℕ)
    → i < length xs → before ≤ entry + sum_by f (take i xs) → new ≤ before + f (get_or xs i d)
    → new ≤ entry + sum_by f xs
within_sum f xs i d new before entry h a b =
    omega (arith, sum_by_more f xs i d h, sum_by-take-le f xs (i + 1))

pub within_counted : {X : Type 0} (f : X → ℕ) (xs : List X) (i : ℕ) (d : X) (new before entry : ℕ)
    → i < length xs → before ≤ entry + (i + sum_by f (take i xs))
    → new ≤ before + (1 + f (get_or xs i d)) → new ≤ entry + (length xs + sum_by f xs)
within_counted f xs i d new before entry h a b =
    omega (arith, sum_by_more f xs i d h, sum_by-take-le f xs (i + 1))

pub counted_turn : {X : Type 0} (f : X → ℕ) (xs : List X) (i : ℕ) (d : X) (new before entry : ℕ)
    → i < length xs → before ≤ entry + (i + sum_by f (take i xs))
    → new ≤ before + (1 + f (get_or xs i d)) → new ≤ entry + (i + 1 + sum_by f (take (i + 1) xs))
counted_turn f xs i d new before entry h a b = omega (arith, sum_by_more f xs i d h)

-- ---- the same of a loop over a list of places

found_at : {Y : Type 0} (p : Y → Bool) (y z : Y) (o : Option Y) → y ≡ z → p y ≡ true
    → cond (p z) (Some z) o ≡ Some y
found_at p y z o is h = ap (λ t. cond t (Some z) o) (ap p (sym is) ∙ h) ∙ ap Some (sym is)

passed_at : {Y : Type 0} (p : Y → Bool) (y z : Y) (o : Option Y) → y ≡ z → p y ≡ false
    → cond (p z) (Some z) o ≡ o
passed_at p y z o is h = ap (λ t. cond t (Some z) o) (ap p (sym is) ∙ h)

pub map_found : {X Y : Type 0} (p : Y → Bool) (f : X → Y) (xs : List X) (i : ℕ) (d : X) (y : Y)
    (whole : Option Y) → i < length xs → whole ≡ find p (map f (drop i xs)) → y ≡ f (get_or xs i d)
    → p y ≡ true → Some y ≡ whole
map_found p f xs i d y whole h inv is hit = grind (arith, map, drop_more, found_at, get_or, drop)

pub map_passed : {X Y : Type 0} (p : Y → Bool) (f : X → Y) (xs : List X) (i : ℕ) (d : X) (y : Y)
    (whole : Option Y) → i < length xs → whole ≡ find p (map f (drop i xs)) → y ≡ f (get_or xs i d)
    → p y ≡ false → whole ≡ find p (map f (drop (i + 1) xs))
map_passed p f xs i d y whole h inv is miss = grind (arith, map, drop_more, passed_at, get_or, drop)

-- ---- the choice that stores its own address

pub address_found : (p : ChoiceValue → Bool) (same : Option ChoiceValue) (x : ChoiceValue)
    (first : Operand) (y : ChoiceValue) → same ≡ Some x → y ≡ storing_address x first
    → p y ≡ true → Some y ≡ find p (own_addresses same (first ∷ []))
address_found p same x first y is e h = grind arith

pub address_passed : (p : ChoiceValue → Bool) (same : Option ChoiceValue) (x : ChoiceValue)
    (first : Operand) (y : ChoiceValue) → same ≡ Some x → y ≡ storing_address x first
    → p y ≡ false → None ≡ find p (own_addresses same (first ∷ []))
address_passed p same x first y is e h = grind arith
