-- Adding pieces that are these.
use Rattle.std.proofs.Common.{◌≡◌, ◌∙◌, ◌++◌, ◌+◌, ◌<◌, ◌≤◌, ℕ, List, append_assoc, append-nil}
use Rattle.std.proofs.Common.{OnOk, Result, ap, sym, arith, drop, flat_map, get_or, length}
use Rattle.std.proofs.lemmas.List.{drop_more, drop_all}
use Rattle.std.proofs.lemmas.Result.{on_ok_weaker}
use Rattle.rvs_page.specs.Pieces.{told}
use Rattle.rvs_page.specs.declared.pieces.Piece.{Piece}

pub tells : {A E : Type 0} (result : Result A E) (old new : List ℕ) {given wanted : List Piece}
    → OnOk result (new ≡ old ++ told given) → given ≡ wanted
    → OnOk result (new ≡ old ++ told wanted)
tells result old new is same = grind (arith, on_ok_weaker)

pub says : {A E : Type 0} (result : Result A E) (old new : List ℕ) {given wanted : List ℕ}
    → OnOk result (new ≡ old ++ given) → given ≡ wanted → OnOk result (new ≡ old ++ wanted)
says result old new is same = grind (arith, on_ok_weaker)

-- adding one text after the other
pub behind : {A E : Type 0} (result : Result A E) (old middle new x y : List ℕ)
    → middle ≡ old ++ x → OnOk result (new ≡ middle ++ y) → OnOk result (new ≡ old ++ (x ++ y))
behind result old middle new x y before is = grind (arith, on_ok_weaker, append_assoc)

-- three first
pub behind-three : {A E : Type 0} (result : Result A E) (old middle new x y z w : List ℕ)
    → middle ≡ old ++ (x ++ (y ++ z)) → OnOk result (new ≡ middle ++ w)
    → OnOk result (new ≡ old ++ (x ++ (y ++ (z ++ w))))
behind-three result old middle new x y z w before is = grind (arith, on_ok_weaker, append_assoc)

-- adding what is told of each of a list: one more, and all
pub more-told : {A : Type 0} (f : A → List ℕ) (text : List ℕ) {new old : List ℕ} (xs : List A)
    {i : ℕ} {x : A} (d : A) → i < length xs → x ≡ get_or xs i d → new ≡ text ++ f x
    → text ++ flat_map f (drop i xs) ≡ old → new ++ flat_map f (drop (i + 1) xs) ≡ old
more-told f text xs {i = i} d below is one all =
    ap (λ t. t ++ flat_map f (drop (i + 1) xs)) (one ∙ ap (λ y. text ++ f y) is)
    ∙ append_assoc text (f (get_or xs i d)) (flat_map f (drop (i + 1) xs))
    ∙ sym (ap (λ ys. text ++ flat_map f ys) (drop_more xs i d below)) ∙ all

pub all-told : {A : Type 0} (f : A → List ℕ) (text : List ℕ) {old : List ℕ} (xs : List A) {i : ℕ}
    → length xs ≤ i → text ++ flat_map f (drop i xs) ≡ old → text ≡ old
all-told f text xs {i = i} end all =
    sym (append-nil text) ∙ sym (ap (λ ys. text ++ flat_map f ys) (drop_all i xs end)) ∙ all
