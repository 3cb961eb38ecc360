-- One turn of a loop that searches a list of lists.
use Rattle.std.proofs.Common.{◌≡◌, ℕ, ◌+◌, ◌*◌, ◌<◌, ◌≤◌, Bool, true, false, cond, List, [], ◌∷◌}
use Rattle.std.proofs.Common.{◌++◌, length, get_or, drop, take, inl, inr, Option, Some, None, refl}
use Rattle.std.proofs.Common.{sym, ap, ◌∙◌, arith}
use Rattle.std.specs.Prelude.{find, filter, flat_map}
use Rattle.std.specs.Option.{option_or}
use Rattle.std.proofs.Math.Nat.{mul-le-mul_left}
use Rattle.std.proofs.lemmas.List.Folds.{find-append}
use Rattle.std.proofs.lemmas.List.Concat.{length-flat_map}
use Rattle.std.proofs.lemmas.List.Sums.{sum_by_more, sum_by-take-le}
use Rattle.std.specs.List.{sum_by}
use Rattle.std.proofs.lemmas.List.{drop_more}
use Rattle.rvs_cross.proofs.Members.{In}

-- ---- lists of lists

find_turn : {X Y : Type 0} (p : Y → Bool) (f : X → List Y) (xs : List X) (k : ℕ) (d : X)
    → k < length xs → find p (flat_map f (drop k xs))
    ≡ option_or (find p (f (get_or xs k d))) (find p (flat_map f (drop (k + 1) xs)))
find_turn p f xs k d h = grind (arith, drop_more, find-append)

pub turn_found : {X Y : Type 0} (p : Y → Bool) (f : X → List Y) (xs : List X) (k : ℕ) (d : X)
    (y : Y) (whole : Option Y) → k < length xs → whole ≡ find p (flat_map f (drop k xs))
    → Some y ≡ find p (f (get_or xs k d)) → Some y ≡ whole
turn_found p f xs k d y whole h inv e =
    sym (inv ∙ find_turn p f xs k d h
    ∙ ap (λ o. option_or o (find p (flat_map f (drop (k + 1) xs)))) (sym e))

pub turn_none : {X Y : Type 0} (p : Y → Bool) (f : X → List Y) (xs : List X) (k : ℕ) (d : X)
    (whole : Option Y) → k < length xs → whole ≡ find p (flat_map f (drop k xs))
    → None ≡ find p (f (get_or xs k d)) → whole ≡ find p (flat_map f (drop (k + 1) xs))
turn_none p f xs k d whole h inv e =
    inv ∙ find_turn p f xs k d h ∙ ap (λ o. option_or o (find p (flat_map f (drop (k + 1) xs))))
    (sym e)

pub find_none : {X : Type 0} (p : X → Bool) (xs : List X) → ((x : X) → In x xs → p x ≡ false)
    → find p xs ≡ None
find_none p [] h = refl
find_none p (x ∷ xs) h = grind (arith, inl, inr, (find_none p xs (λ y i. h y (inr i))))

-- ---- costs

pub within_rows : (new before entry k n each : ℕ) → k < n → before ≤ entry + k * each
    → new ≤ before + each → new ≤ entry + n * each
within_rows new before entry k n each h a b = grind (arith, mul-le-mul_left)

pub sum_turn : {X : Type 0} (f : X → ℕ) (xs : List X) (k : ℕ) (d : X) (new before entry : ℕ)
    → k < length xs → before ≤ entry + sum_by f (take k xs) → new ≤ before + f (get_or xs k d)
    → new ≤ entry + sum_by f (take (k + 1) xs)
sum_turn f xs k d new before entry h a b = omega (arith, sum_by_more f xs k d h)

pub all_flat : {X Y : Type 0} (f : X → List Y) (xs : List X) (k : ℕ) (new entry : ℕ)
    → new ≤ entry + sum_by (λ x. length (f x)) (take k xs)
    → new ≤ entry + length (flat_map f xs)
all_flat f xs k new entry h = grind (arith, length-flat_map, sum_by-take-le)

pub within_flat : {X Y : Type 0} (f : X → List Y) (xs : List X) (k : ℕ) (d : X)
    (new before entry : ℕ) → k < length xs
    → before ≤ entry + sum_by (λ x. length (f x)) (take k xs)
    → new ≤ before + length (f (get_or xs k d)) → new ≤ entry + length (flat_map f xs)
within_flat f xs k d new before entry h a b =
    all_flat f xs (k + 1) new entry (sum_turn (λ x. length (f x)) xs k d new before entry h a b)

-- ---- a test before

picked : {X Y : Type 0} (f : X → List Y) (g : Bool → X → List Y)
    → ((x : X) → g true x ≡ f x) → ((x : X) → g false x ≡ []) → (t : Bool) (x : X) (xs : List X)
    → flat_map f (cond t (x ∷ xs) xs) ≡ g t x ++ flat_map f xs
picked f g t x xs = grind arith

pub flat_filter : {X Y : Type 0} (f : X → List Y) (g : Bool → X → List Y) (q : X → Bool)
    → ((x : X) → g true x ≡ f x) → ((x : X) → g false x ≡ []) → (xs : List X)
    → flat_map f (filter q xs) ≡ flat_map (λ x. g (q x) x) xs
flat_filter f g q kept gone [] = refl
flat_filter f g q kept gone (x ∷ xs) = grind (arith, picked, (flat_filter f g q kept gone xs))
