use Rattle.std.proofs.Common.{◌≡◌, ◌++◌, map, drop}
use Rattle.rvs_points.specs.PointView.{point_view}
use Rattle.rvs_count.specs.Report.{points_text}
use Rattle.rvs_count.proofs.report.push_points.Given as goal

abbrev pub invariant-loop-index : goal.invariant-loop-index
invariant-loop-index l =
    l.text ++ points_text (drop l.index l.counts) (map point_view (drop l.index l.points))
    ≡ l.fn.text ++ points_text l.counts (map point_view l.points)
