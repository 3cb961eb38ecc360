-- The order of a label's claims.
use Rattle.std.proofs.Common.{◌≡◌, ℕ, ◌+◌, List, [], ◌∷◌, length, map, refl, ap}
use Rattle.std.specs.List.{range_with_len}
use Rattle.rvs_test_text.specs.declared.claim.Claim.{Claim}
use Rattle.rvs_test.specs.Made.{places, solved_among, numbered, claims_of}
use Rattle.rvs_test.specs.Made.{CasesAreInOrder, PointsAreInOrder}

cases_numbered : (j : ℕ) (ks : List ℕ)
    → map (λ (c : Claim). c.case) (numbered j ks) ≡ range_with_len j (length (numbered j ks))
cases_numbered j [] = refl
cases_numbered j (k ∷ ks) = ap (λ js. j ∷ js) (cases_numbered (j + 1) ks)

points_numbered : (j : ℕ) (ks : List ℕ) → map (λ (c : Claim). c.point) (numbered j ks) ≡ ks
points_numbered j [] = refl
points_numbered j (k ∷ ks) = ap (λ js. k ∷ js) (points_numbered (j + 1) ks)

pub cases_are_in_order : CasesAreInOrder
unfolding claims_of
cases_are_in_order isa l = cases_numbered 0 (solved_among isa l (places l))

pub points_are_in_order : PointsAreInOrder
unfolding claims_of
points_are_in_order isa l = points_numbered 0 (solved_among isa l (places l))
