use Rattle.std.proofs.Common.{◌≡◌, ◌++◌, map, drop, None}
use Rattle.rvs_cgf.specs.GroupView.{point_view}
use Rattle.rvs_cgf.specs.Print.{points_text}
use Rattle.rvs_cgf.proofs.print.push_points.Given as goal

abbrev pub invariant-loop-point : goal.invariant-loop-point
invariant-loop-point l =
    l.text ++ points_text l.before (map point_view (drop l.point-index l.points))
    ≡ l.fn.text ++ points_text None (map point_view l.points)
