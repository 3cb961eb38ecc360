use Rattle.std.proofs.Common.{◌≡◌, ◌++◌, drop}
use Rattle.std.specs.List.{flat_map}
use Rattle.rvs_page.specs.Points.{point_row}
use Rattle.rvs_page.proofs.points.push_each_point.Given as goal

abbrev pub invariant-loop-point : goal.invariant-loop-point
invariant-loop-point l =
    l.page.items ++ flat_map (point_row l.counted) (drop l.point-index l.points)
    ≡ l.initial.page.items ++ flat_map (point_row l.counted) l.points
