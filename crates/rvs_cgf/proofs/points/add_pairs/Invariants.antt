use Rattle.std.proofs.Common.{◌++◌, List, take}
use Rattle.rvs_cgf.specs.PointKeys.{AreKeysOf}
use Rattle.rvs_points.specs.declared.group.Point.{Point}
use Rattle.rvs_cgf.proofs.points.add_pairs.Given as goal

abbrev pub invariant-loop-point : goal.invariant-loop-point
invariant-loop-point l = (points : List Point) → AreKeysOf l.fn.known points
    → AreKeysOf l.known (points ++ take l.point-index l.more)
