use Rattle.std.proofs.Common.{◌≡◌, ◌+◌, ◌≤◌, map, drop}
use Rattle.rvs_points.specs.PointView.{point_view}
use Rattle.rvs_prop.specs.Report.{measured}
use Rattle.rvs_prop.proofs.report.measured.Given as goal

abbrev pub invariant-loop-point : goal.invariant-loop-point
invariant-loop-point l = record {
  rest : l.count + measured (map point_view (drop l.point-index l.points))
      ≡ measured (map point_view l.points);
  low : l.count ≤ l.point-index;
}
