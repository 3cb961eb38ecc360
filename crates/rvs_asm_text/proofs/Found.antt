-- Lists that are gone through.
use Rattle.std.proofs.Common.{◌≡◌, ℕ, ◌+◌, ◌<◌, Bool, true, false, ◌&&◌, cond, List, length, get_or}
use Rattle.std.proofs.Common.{drop, Some, sym, ap, ◌∙◌}
use Rattle.std.proofs.lemmas.List.{at_drop_more}
use Rattle.std.specs.List.{find, list_all}

-- the first that is wanted isn't the one at this place
pub passed : {A : Type 0} (p : A → Bool) (xs : List A) (i : ℕ) (d : A) → i < length xs
    → p (get_or xs i d) ≡ false → find p (drop (i + 1) xs) ≡ find p (drop i xs)
passed p xs i d h e =
    sym (at_drop_more (find p) xs i d h
    ∙ ap (λ b. cond b (Some (get_or xs i d)) (find p (drop (i + 1) xs))) e)

-- all are as the one at this place, and not all are
pub all_passed : {A : Type 0} (p : A → Bool) (xs : List A) (i : ℕ) (d : A) → i < length xs
    → p (get_or xs i d) ≡ true → list_all p (drop (i + 1) xs) ≡ list_all p (drop i xs)
all_passed p xs i d h e =
    sym (at_drop_more (list_all p) xs i d h
    ∙ ap (λ b. b && list_all p (drop (i + 1) xs)) e)

pub not_all : {A : Type 0} (p : A → Bool) (xs : List A) (i : ℕ) (d : A) → i < length xs
    → p (get_or xs i d) ≡ false → list_all p (drop i xs) ≡ false
not_all p xs i d h e =
    at_drop_more (list_all p) xs i d h ∙ ap (λ b. b && list_all p (drop (i + 1) xs)) e
