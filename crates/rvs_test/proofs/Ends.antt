-- The points of a label, looked at one after the other.
use Rattle.std.proofs.Common.{◌≡◌, ℕ, ◌+◌, ◌<◌, ◌≤◌, List, length, take, get_or, Option, Some, None}
use Rattle.std.proofs.Common.{sym, ap, ◌∙◌, subst, arith}
use Rattle.std.specs.Prelude.{slice_get, sum_by, ◌⊎◌}
use Rattle.std.proofs.Common.{inl, inr}
use Rattle.std.proofs.lemmas.List.{length-map}
use Rattle.std.proofs.lemmas.List.Sums.{sum_by-take-le}
use Rattle.std.proofs.lemmas.Option.{slice_get_cases}
use Rattle.rvs_insn.specs.Isa.{Isa}
use Rattle.rvs_points.specs.declared.group.Point.{Point as CodePoint}
use Rattle.rvs_points.specs.declared.group.Label.{Label as CodeLabel}
use Rattle.rvs_points.specs.PointView.{point_view, label_view}
use Rattle.rvs_points.specs.Points.{Point, Label}
use Rattle.rvs_solver.specs.Solving.{bound_of_point, bound_of_label, bound_at}
use Rattle.rvs_solver.specs.Solving.{bound_or_none}
use Rattle.rvs_cross.proofs.Searching.{sum_turn}
use Rattle.rvs_test.specs.Made.{claims_of, unsolved_of, cases_of}
use Rattle.rvs_test.specs.Found.{FoundValue, found_before}

pub same_length : (l : CodeLabel) → length (label_view l).points ≡ length l.points
same_length l = length-map l.points point_view

-- the end of the loop is the number of points
pub end_is : (l : CodeLabel) (ps : List CodePoint) (k : ℕ) → ps ≡ l.points → k < length ps
    → k < length (label_view l).points
end_is l ps k e h = grind (arith, length, same_length)

pub end_at : (l : CodeLabel) (ps : List CodePoint) (k : ℕ) → ps ≡ l.points → k ≡ length ps
    → k ≡ length (label_view l).points
end_at l ps k e h = h ∙ ap length e ∙ sym (same_length l)

turn : (isa : Isa) (l : Label) (k : ℕ) (d : Point) (new before entry : ℕ) → k < length l.points
    → slice_get l.points k ≡ Some d → get_or l.points k d ≡ d
    → before ≤ entry + sum_by (bound_of_point isa l) (take k l.points)
    → new ≤ before + bound_at isa l k
    → new ≤ entry + sum_by (bound_of_point isa l) (take (k + 1) l.points)
turn isa l k d new before entry h at is b e =
    let P : Option Point → Type 0 = λ o. new ≤ before + bound_or_none isa l o in
    let Q : Point → Type 0 = λ p. new ≤ before + bound_of_point isa l p in
    sum_turn (bound_of_point isa l) l.points k d new before entry h b
    (subst Q (sym is) (subst P at e))

pub cost_turn : (isa : Isa) (l : CodeLabel) (k : ℕ) (new before entry : ℕ)
    → k < length (label_view l).points
    → before ≤ entry + sum_by (bound_of_point isa (label_view l)) (take k (label_view l).points)
    → new ≤ before + bound_at isa (label_view l) k
    → new ≤ entry + sum_by (bound_of_point isa (label_view l)) (take (k + 1) (label_view l).points)
cost_turn isa l k new before entry h b e = by ((slice_get_cases (label_view l).points k).1) where
  by :
      ((x : Point) × (k < length (label_view l).points)
      × (slice_get (label_view l).points k ≡ Some x) × (get_or (label_view l).points k x ≡ x))
      ⊎ ((length (label_view l).points ≤ k) × (slice_get (label_view l).points k ≡ None))
      → new ≤ entry + sum_by (bound_of_point isa (label_view l))
      (take (k + 1) (label_view l).points)
  by (inl (x, i, at, is)) = turn isa (label_view l) k x new before entry h at is b e
  by (inr (past, at)) = absurd (omega (arith, past, h))

-- the same within the whole label
pub cost_within : (isa : Isa) (l : CodeLabel) (k : ℕ) (new before entry : ℕ)
    → k < length (label_view l).points
    → before ≤ entry + sum_by (bound_of_point isa (label_view l)) (take k (label_view l).points)
    → new ≤ before + bound_at isa (label_view l) k → new ≤ entry + bound_of_label isa (label_view l)
cost_within isa l k new before entry h b e = omega (
  arith,
  cost_turn isa l k new before entry h b e,
  sum_by-take-le (bound_of_point isa (label_view l)) (label_view l).points (k + 1),
)

pub all_cases : (isa : Isa) (l : Label) (f : FoundValue) (n : ℕ) → f ≡ found_before isa l n
    → n ≡ length l.points → f.cases ≡ cases_of isa l
unfolding found_before cases_of
all_cases isa l f n h e = ap (λ (x : FoundValue). x.cases) (h ∙ ap (found_before isa l) e)

pub all_claims : (isa : Isa) (l : Label) (f : FoundValue) (n : ℕ) → f ≡ found_before isa l n
    → n ≡ length l.points → f.claims ≡ claims_of isa l
unfolding found_before claims_of
all_claims isa l f n h e = ap (λ (x : FoundValue). x.claims) (h ∙ ap (found_before isa l) e)

pub all_unsolved : (isa : Isa) (l : Label) (f : FoundValue) (n : ℕ) → f ≡ found_before isa l n
    → n ≡ length l.points → f.unsolved ≡ unsolved_of isa l
unfolding found_before unsolved_of
all_unsolved isa l f n h e = ap (λ (x : FoundValue). x.unsolved) (h ∙ ap (found_before isa l) e)
