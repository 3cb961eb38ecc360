-- What was found for the points that were looked at.
use Rattle.std.specs.Prelude.{ℕ, List, [], ◌∷◌, ◌++◌, length, Option, Some, None}
use Rattle.std.specs.List.{range_with_len}
use Rattle.rvs_insn.specs.Isa.{Isa}
use Rattle.rvs_points.specs.Points.{Label}
use Rattle.rvs_choice.specs.declared.solved.Solved.{Solved}
use Rattle.rvs_test_text.specs.declared.claim.Claim.{Claim}
use Rattle.rvs_test.specs.declared.finding.Found.{Found}
use Rattle.rvs_test.specs.Made.{solved_among, unsolved_among, cases_among, numbered}

pub record FoundValue : Type 0 where
  pub cases : List Solved
  pub claims : List Claim
  pub unsolved : List ℕ

abbrev pub found_view : Found → FoundValue
found_view f = record { cases = f.cases; claims = f.claims; unsolved = f.unsolved }

abbrev pub nothing_found : FoundValue
nothing_found = record { cases = []; claims = []; unsolved = [] }

-- one more point, with what solves it
abbrev pub with_one : FoundValue → ℕ → Option Solved → FoundValue
with_one f k None = record { cases = f.cases; claims = f.claims; unsolved = f.unsolved ++ k ∷ [] }
with_one f k (Some s) = record {
  cases = f.cases ++ s ∷ [];
  claims = f.claims ++ record { case = length f.claims; point = k } ∷ [];
  unsolved = f.unsolved;
}

-- what is found for the first so many points
unfoldable pub found_before : Isa → Label → ℕ → FoundValue
found_before isa l n = record {
  cases = cases_among isa l (range_with_len 0 n);
  claims = numbered 0 (solved_among isa l (range_with_len 0 n));
  unsolved = unsolved_among isa l (range_with_len 0 n);
}
