-- The points of a valid label.
use Rattle.std.proofs.Common.{◌≡◌, ℕ, ◌+◌, ◌<◌, ◌≤◌, true, List, length, map, get_or, Option}
use Rattle.std.proofs.Common.{Some, sym, ap, ◌∙◌, subst, arith}
use Rattle.std.specs.Prelude.{option_and_then, slice_get, IfSome, IfNone}
use Rattle.std.proofs.lemmas.List.{get_or-map, length-map}
use Rattle.std.proofs.lemmas.Option.{slice_get_read, slice_get-map}
use Rattle.rvs_insn.specs.Isa.{Isa}
use Rattle.rvs_expr.proofs.OneLanguage.{numbers_alone, registers_alone}
use Rattle.rvs_points.specs.Points.{Meaning, means, says, Point as PointOf, Label as LabelOf}
use Rattle.rvs_points.specs.PointView.{meaning_view, point_view, label_view}
use Rattle.rvs_points.specs.Valid.{IsValid}
use Rattle.rvs_points.specs.declared.group.Kind.{Kind}
use Rattle.rvs_points.specs.declared.group.Point.{Point}
use Rattle.rvs_points.specs.declared.group.Label.{Label}
use Rattle.rvs_points.proofs.Saying.{said_by}
use Rattle.rvs_solver.specs.Point.{is_valid}
use Rattle.rvs_solver.specs.Solving.{first_meant, first_of_point, first_at, bound_meant, bound_at}
use Rattle.rvs_solver.specs.Solving.{SolvesAs, IsLeastAt, IsSolvableAs}
use Rattle.rvs_solver.specs.Solving.{IsSolvableAt}
use Rattle.rvs_choice.specs.declared.solved.Solved.{Solved}

-- ---- meanings of keys are of one language

meaning_valid : (k : Kind) (key : List ℕ) (m : Meaning) → says k key ≡ means m
    → is_valid m ≡ true
meaning_valid k key m e = grind (arith, said_by, registers_alone, numbers_alone)

pub point_valid : (isa : Isa) (l : LabelOf) (k : ℕ) (d : PointOf) → IsValid isa l
    → k < length l.points → is_valid (get_or l.points k d).meaning ≡ true
point_valid isa l k d v h = grind (arith, get_or, meaning_valid)

-- ---- the code's point

pub point_there : (l : Label) (k : ℕ) (p : Point) → k < length l.points → p ≡ get_or l.points k p
    → slice_get (label_view l).points k ≡ Some (point_view p)
point_there l k p h is = grind (arith, slice_get-map, slice_get_read, length)

pub valid_there : (isa : Isa) (l : Label) (k : ℕ) (p : Point) → IsValid isa (label_view l)
    → k < length l.points → p ≡ get_or l.points k p → is_valid (meaning_view p.meaning) ≡ true
valid_there isa l k p v h is =
    let at : get_or (map point_view l.points) k (point_view p) ≡ point_view p =
    get_or-map point_view l.points k p (point_view p) h ∙ ap point_view (sym is) in
    let same : length (map point_view l.points) ≡ length l.points =
    length-map l.points point_view in
    let long : k < length (map point_view l.points) = subst (λ n. k < n) (sym same) h in
    ap (λ (x : PointOf). is_valid x.meaning) (sym at)
    ∙ point_valid isa (label_view l) k (point_view p) v long

-- ---- what solve promises

pub first_there : (isa : Isa) (l : LabelOf) (k : ℕ) (p : PointOf) (s : Option Solved)
    → slice_get l.points k ≡ Some p → s ≡ first_meant isa l.ops p.kind p.meaning
    → s ≡ first_at isa l k
first_there isa l k p s at is = is ∙ sym (ap (option_and_then (first_of_point isa l)) at)

pub none_there : (isa : Isa) (l : LabelOf) (k : ℕ) (p : PointOf) (s : Option Solved)
    → slice_get l.points k ≡ Some p
    → IfNone s (IsSolvableAs isa l.ops p.kind p.meaning → ⊥)
    → IfNone s (IsSolvableAt isa l k → ⊥)
none_there isa l k p s at h = grind arith

pub least_there : (isa : Isa) (l : LabelOf) (k : ℕ) (p : PointOf) (s : Option Solved)
    → slice_get l.points k ≡ Some p → IfSome s (SolvesAs isa l.ops p p.meaning)
    → IfSome s (IsLeastAt isa l k)
least_there isa l k p s at h = grind arith

pub cost_there : (isa : Isa) (l : LabelOf) (k : ℕ) (p : PointOf) (new old : ℕ)
    → slice_get l.points k ≡ Some p → new ≤ old + bound_meant isa l.ops p.meaning
    → new ≤ old + bound_at isa l k
cost_there isa l k p new old at h = grind (arith, Option)
