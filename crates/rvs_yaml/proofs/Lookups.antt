-- The stack of the code, block after block.
use Rattle.std.proofs.Common.{◌≡◌, ℕ, ◌+◌, ◌<◌, List, [], ◌∷◌, ◌++◌, reverse, length, take}
use Rattle.std.proofs.Common.{get_or, ap, ◌∙◌}
use Rattle.std.proofs.lemmas.List.{take_more, reverse-append}
use Rattle.rvs_yaml.specs.StackView.{open_view, stack_view}
use Rattle.rvs_yaml.specs.declared.open.Open.{Open}
use Rattle.rvs_tree.proofs.Sums.{map-append}

pub reverse-push : {A : Type 0} (xs : List A) (x : A) → reverse (xs ++ x ∷ []) ≡ x ∷ reverse xs
reverse-push xs x = reverse-append xs (x ∷ [])

pub stack-push : (bs : List Open) (b : Open)
    → stack_view (bs ++ b ∷ []) ≡ open_view b ∷ stack_view bs
stack-push bs b = simp (map-append, reverse-push)

pub stack-more : (bs : List Open) (i : ℕ) (b : Open) → i < length bs
    → stack_view (take (i + 1) bs) ≡ open_view (get_or bs i b) ∷ stack_view (take i bs)
stack-more bs i b h = ap stack_view (take_more bs i b h) ∙ stack-push (take i bs) (get_or bs i b)
