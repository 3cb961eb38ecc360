use Rattle.std.proofs.Common.{◌≡◌, ◌≤◌, ◌+◌, drop, take}
use Rattle.std.specs.Prelude.{find, flat_map, sum_by}
use Rattle.rvs_points.specs.PointView.{meaning_view}
use Rattle.rvs_solver.specs.Choices.{choices}
use Rattle.rvs_solver.specs.Point.{hits, constants_of}
use Rattle.rvs_solver.specs.Bound.{bound_of}
use Rattle.rvs_solver.proofs.solving.first_of_ops.Given as goal

abbrev pub invariant-loop-op : goal.invariant-loop-op
invariant-loop-op g l = record {
  first : find (hits l.kind (meaning_view l.meaning))
      (flat_map (λ op. choices l.spec op (constants_of (meaning_view l.meaning))) l.ops)
      ≡ find (hits l.kind (meaning_view l.meaning))
      (flat_map (λ op. choices l.spec op (constants_of (meaning_view l.meaning)))
      (drop l.op-index l.ops));
  cost : l.steps ≤ l.fn.steps + sum_by (bound_of l.spec (meaning_view l.meaning))
      (take l.op-index l.ops);
}
