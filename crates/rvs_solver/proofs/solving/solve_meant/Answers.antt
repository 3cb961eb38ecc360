use Rattle.std.proofs.Common.{◌≡◌, ◌∙◌, ◌≤◌, ◌+◌, sym, ap, subst}
use Rattle.std.specs.Prelude.{IfSome, IfNone, IfOk, option_map}
use Rattle.rvs_points.specs.Points.{Meaning}
use Rattle.rvs_points.specs.PointView.{meaning_view, point_view}
use Rattle.rvs_choice.specs.declared.solved.Solved.TheVariants.{One}
use Rattle.rvs_solver.specs.First.{first_choice, Solvable}
use Rattle.rvs_solver.specs.Solving.{first_meant, SolvesAs, IsLeastChoice, IsSolvableAs}
use Rattle.rvs_solver.specs.Solving.{bound_meant}
use Rattle.rvs_solver.proofs.Meant.{first_single, solves_single, solvable_single, bound_single}
use Rattle.rvs_solver.proofs.Meant.{single_meaning, ok_then}
use Rattle.rvs_solver.proofs.solving.solve_meant.Goals as goal

pub returns-in-Window : goal.returns-in-Window
returns-in-Window g c =
    let isa = c.args.spec.now in
    let ops = c.args.ops.now in
    let p = point_view c.args.point.now in
    let r = c.solve_window.result in
    let e = sym (ap meaning_view c.in-Window.is) in
    record {
      first = subst (λ (m : Meaning). IfOk r (λ s. s ≡ first_meant isa ops p.kind m)) e
          c.solve_window.ensures.first;
      least = subst (λ (m : Meaning). IfOk r (λ s. IfSome s (SolvesAs isa ops p m))) e
          c.solve_window.ensures.least;
      none = subst (λ (m : Meaning). IfOk r (λ s. IfNone s (IsSolvableAs isa ops p.kind m → ⊥))) e
          c.solve_window.ensures.none;
      words = c.solve_window.ensures.words;
      cost = subst
          (λ (m : Meaning). c.solve_window.new.steps ≤ c.args.steps.now + bound_meant isa ops m) e
          c.solve_window.ensures.cost;
    }

pub returns-in_default : goal.returns-in_default
returns-in_default g c =
    let isa = c.args.spec.now in
    let ops = c.args.ops.now in
    let p = point_view c.args.point.now in
    let m = p.meaning in
    let r = c.solve_choice.result in
    let single = single_meaning c.args.point.now.meaning c.in_default.not-Window in
    record {
      first = ok_then (λ s. s ≡ option_map One (first_choice isa ops p.kind m))
          (λ s. s ≡ first_meant isa ops p.kind m)
          (λ s h. h ∙ first_single isa ops p.kind m single) r c.solve_choice.ensures.first;
      least =
          ok_then (λ s. IfSome s (IsLeastChoice isa ops p)) (λ s. IfSome s (SolvesAs isa ops p m))
          (λ s h. solves_single isa ops p m s single h) r c.solve_choice.ensures.least;
      none = ok_then (λ s. IfNone s (Solvable isa ops p.kind m → ⊥))
          (λ s. IfNone s (IsSolvableAs isa ops p.kind m → ⊥))
          (λ s h. solvable_single isa ops p.kind m s single h) r c.solve_choice.ensures.none;
      words = c.solve_choice.ensures.words;
      cost = bound_single isa ops m c.solve_choice.new.steps c.args.steps.now single
          c.solve_choice.ensures.cost;
    }
