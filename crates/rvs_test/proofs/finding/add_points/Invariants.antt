use Rattle.std.proofs.Common.{◌≡◌, ◌≤◌, ◌+◌, take}
use Rattle.std.specs.Prelude.{sum_by}
use Rattle.rvs_points.specs.PointView.{label_view}
use Rattle.rvs_solver.specs.Solving.{bound_of_point}
use Rattle.rvs_test.specs.Found.{found_view, found_before}
use Rattle.rvs_test.proofs.finding.add_points.Given as goal

abbrev pub invariant-loop-point : goal.invariant-loop-point
invariant-loop-point g l = record {
  found : found_view l.found ≡ found_before l.spec (label_view l.label) l.point;
  cost : l.steps ≤ l.fn.steps + sum_by (bound_of_point l.spec (label_view l.label))
      (take l.point (label_view l.label).points);
}
