-- The test of a label: which points its cases are to hit, and what is left.
use Rattle.std.specs.Prelude.{◌≡◌, ℕ, ◌+◌, Bool, not, List, [], ◌∷◌, length, map, filter, flat_map}
use Rattle.std.specs.Prelude.{Option, Some, None, option_to_list, is_some, slice_get}
use Rattle.std.specs.List.{range_with_len}
use Rattle.rvs_insn.specs.Isa.{Isa}
use Rattle.rvs_points.specs.Kinds.{kind_name}
use Rattle.rvs_points.specs.Points as groups
use Rattle.rvs_points.specs.Points.{Label}
use Rattle.rvs_choice.specs.declared.solved.Solved.{Solved}
use Rattle.rvs_solver.specs.Solving.{first_at}
use Rattle.rvs_test_text.specs.declared.claim.Claim.{Claim}
use Rattle.rvs_test_text.specs.Claim.{fits_regions}
use Rattle.rvs_test_text.specs.TestText.{Point, test_text}

-- the points of a label, by their places
abbrev pub places : Label → List ℕ
places l = range_with_len 0 (length l.points)

-- those that a choice hits, and the others
abbrev pub is_solved : Isa → Label → ℕ → Bool
is_solved isa l k = is_some (first_at isa l k)

abbrev pub solved_among : Isa → Label → List ℕ → List ℕ
solved_among isa l ks = filter (is_solved isa l) ks

abbrev pub unsolved_among : Isa → Label → List ℕ → List ℕ
unsolved_among isa l ks = filter (λ k. not (is_solved isa l k)) ks

-- each solved point gets the next case
abbrev pub numbered : ℕ → List ℕ → List Claim
numbered j [] = []
numbered j (k ∷ ks) = record { case = j; point = k } ∷ numbered (j + 1) ks

-- what the cases are made from: the first choices
abbrev pub cases_among : Isa → Label → List ℕ → List Solved
cases_among isa l ks = flat_map (λ k. option_to_list (first_at isa l k)) ks

unfoldable pub claims_of : Isa → Label → List Claim
claims_of isa l = numbered 0 (solved_among isa l (places l))

-- they name the cases 0, 1, 2 and so on, and the solved points in the label's order
abbrev pub CasesAreInOrder : Type 0
CasesAreInOrder =
    (isa : Isa) (l : Label)
    → map (λ (c : Claim). c.case) (claims_of isa l) ≡ range_with_len 0 (length (claims_of isa l))

abbrev pub PointsAreInOrder : Type 0
PointsAreInOrder =
    (isa : Isa) (l : Label)
    → map (λ (c : Claim). c.point) (claims_of isa l) ≡ solved_among isa l (places l)

unfoldable pub unsolved_of : Isa → Label → List ℕ
unsolved_of isa l = unsolved_among isa l (places l)

unfoldable pub cases_of : Isa → Label → List Solved
cases_of isa l = cases_among isa l (places l)

-- a point as the header names it
abbrev pub named : groups.Point → Point
named p = record { kind = kind_name p.kind; key = p.key }

abbrev pub named_or_none : Option groups.Point → Point
named_or_none None = record { kind = []; key = [] }
named_or_none (Some p) = named p

abbrev pub named_at : Label → ℕ → Point
named_at l k = named_or_none (slice_get l.points k)

-- the text, where a point is solved
abbrev pub text_for : Isa → Label → List Solved → Option (List ℕ)
text_for isa l [] = None
text_for isa l cs =
    Some (test_text l.name isa (map (λ (c : Claim). named_at l c.point) (claims_of isa l)) cs)

abbrev pub text_of_label : Isa → Label → Option (List ℕ)
text_of_label isa l = text_for isa l (cases_of isa l)

-- whether the core's regions have room for its test; the text of a label without a case is never
-- made
abbrev pub has_room : Isa → Label → Bool
has_room isa l = fits_regions isa (cases_of isa l)
