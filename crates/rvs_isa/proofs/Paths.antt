-- The text of a path.
use Rattle.std.proofs.Common.{◌≡◌, ℕ, List, [], ◌∷◌, ◌++◌, Bor, map, codes, ap, refl, append-nil}
use Rattle.std.specs.List.{join_by}
use Rattle.rvs_isa.specs.Refusal.{path_text}

-- the keys joined by a dot
pub joined : (keys : List (Bor (List ℕ)))
    → join_by (λ k. k.now) (codes ".") keys ≡ path_text (map (λ k. k.now) keys)
joined [] = refl
joined (k ∷ []) = append-nil k.now
joined (k ∷ l ∷ ks) = ap (λ t. k.now ++ (46 ∷ t)) (joined (l ∷ ks))
