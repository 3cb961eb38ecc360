use Rattle.std.proofs.Common.{◌≡◌, ◌∙◌, ◌≤◌, ◌+◌, List, get_or, ap, subst}
use Rattle.std.specs.Prelude.{IfSome, IfNone}
use Rattle.rvs_insn.specs.declared.op.Op.{Op}
use Rattle.rvs_points.specs.PointView.{meaning_view, point_view, label_view}
use Rattle.rvs_solver.specs.Solving.{first_meant, first_at, SolvesAs, IsLeastAt, IsSolvableAs}
use Rattle.rvs_solver.specs.Solving.{IsSolvableAt, bound_meant}
use Rattle.rvs_solver.proofs.Labels.{point_there, valid_there, first_there, least_there, none_there}
use Rattle.rvs_solver.proofs.Labels.{cost_there}
use Rattle.rvs_solver.proofs.Meant.{ok_then}
use Rattle.rvs_solver.proofs.solving.solve.Goals as goal

pub solve_meant-requires : goal.solve_meant-requires
solve_meant-requires g c =
    let p = c.index-as_slice-point.result in
    let is : p ≡ get_or c.args.label.now.points c.args.point p =
    c.index-as_slice-point.is ∙ ap (λ l. get_or l c.args.point p) c.as_slice.ensures in
    valid_there c.args.spec.now c.args.label.now c.args.point p c.requires.valid c.requires.point is

pub returns-clause-first : goal.returns-clause-first
returns-clause-first g c =
    let p = c.index-as_slice-point.result in
    let is : p ≡ get_or c.args.label.now.points c.args.point p =
    c.index-as_slice-point.is ∙ ap (λ l. get_or l c.args.point p) c.as_slice.ensures in
    let isa = c.args.spec.now in
    let l = label_view c.args.label.now in
    let there = point_there c.args.label.now c.args.point p c.requires.point is in
    let m = meaning_view p.meaning in
    ok_then (λ s. s ≡ first_meant isa c.as_slice-2.result.now p.kind m)
    (λ s. s ≡ first_at isa l c.args.point)
    (λ s h. first_there isa l c.args.point (point_view p) s there
    (h ∙ ap (λ ops. first_meant isa ops p.kind m) c.as_slice-2.ensures)) c.solve_meant.result
    c.solve_meant.ensures.first

pub returns-clause-least : goal.returns-clause-least
returns-clause-least g c =
    let p = c.index-as_slice-point.result in
    let is : p ≡ get_or c.args.label.now.points c.args.point p =
    c.index-as_slice-point.is ∙ ap (λ l. get_or l c.args.point p) c.as_slice.ensures in
    let isa = c.args.spec.now in
    let l = label_view c.args.label.now in
    let there = point_there c.args.label.now c.args.point p c.requires.point is in
    let m = meaning_view p.meaning in
    ok_then (λ s. IfSome s (SolvesAs isa c.as_slice-2.result.now (point_view p) m))
    (λ s. IfSome s (IsLeastAt isa l c.args.point))
    (λ s h. least_there isa l c.args.point (point_view p) s there
    (subst (λ (ops : List Op). IfSome s (SolvesAs isa ops (point_view p) m)) c.as_slice-2.ensures
    h))
    c.solve_meant.result c.solve_meant.ensures.least

pub returns-clause-none : goal.returns-clause-none
returns-clause-none g c =
    let p = c.index-as_slice-point.result in
    let is : p ≡ get_or c.args.label.now.points c.args.point p =
    c.index-as_slice-point.is ∙ ap (λ l. get_or l c.args.point p) c.as_slice.ensures in
    let isa = c.args.spec.now in
    let l = label_view c.args.label.now in
    let there = point_there c.args.label.now c.args.point p c.requires.point is in
    let m = meaning_view p.meaning in
    ok_then (λ s. IfNone s (IsSolvableAs isa c.as_slice-2.result.now p.kind m → ⊥))
    (λ s. IfNone s (IsSolvableAt isa l c.args.point → ⊥))
    (λ s h. none_there isa l c.args.point (point_view p) s there
    (subst (λ (ops : List Op). IfNone s (IsSolvableAs isa ops p.kind m → ⊥)) c.as_slice-2.ensures
    h)) c.solve_meant.result c.solve_meant.ensures.none

pub returns-clause-cost : goal.returns-clause-cost
returns-clause-cost g c =
    let p = c.index-as_slice-point.result in
    let is : p ≡ get_or c.args.label.now.points c.args.point p =
    c.index-as_slice-point.is ∙ ap (λ l. get_or l c.args.point p) c.as_slice.ensures in
    let isa = c.args.spec.now in
    let l = label_view c.args.label.now in
    let there = point_there c.args.label.now c.args.point p c.requires.point is in
    let m = meaning_view p.meaning in
    let old = c.args.steps.now in
    let new = c.solve_meant.new.steps in
    cost_there isa l c.args.point (point_view p) new old there
    (subst (λ (ops : List Op). new ≤ old + bound_meant isa ops m) c.as_slice-2.ensures
    c.solve_meant.ensures.cost)
