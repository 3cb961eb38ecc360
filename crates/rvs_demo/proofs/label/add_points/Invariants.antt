use Rattle.std.proofs.Common.{◌≡◌, ◌++◌, map, take}
use Rattle.rvs_points.specs.PointView.{point_view}
use Rattle.rvs_demo.specs.Label.{points_of}
use Rattle.rvs_demo.proofs.label.add_points.Given as goal

abbrev pub invariant-loop-key : goal.invariant-loop-key
invariant-loop-key l =
    map point_view l.points.items
    ≡ map point_view l.fn.points.items
    ++ points_of l.kind (map (λ key. key.now) (take l.key-index l.keys))
