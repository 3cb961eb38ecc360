-- Which of the claims of a test is of a point. They are in the order of their points.
use Rattle.std.specs.Prelude.{ℕ, ◌==◌, if◌then◌else◌, List, [], ◌∷◌, Option, Some, None}
use Rattle.rvs_test_text.specs.declared.claim.Claim.{Claim}

-- the case of the k-th point, where the first of the claims that are left is of that point
abbrev pub case_at : List Claim → ℕ → Option ℕ
case_at [] k = None
case_at (c ∷ cs) k = if c.point == k then Some c.case else None

-- the claims that are left behind it
abbrev pub claims_after : List Claim → ℕ → List Claim
claims_after [] k = []
claims_after (c ∷ cs) k = if c.point == k then cs else c ∷ cs
