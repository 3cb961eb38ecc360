use Rattle.std.proofs.Common.{◌≡◌, ◌+◌, ◌++◌, drop}
use Rattle.std.specs.Prelude.{map}
use Rattle.rvs_points.specs.PointView.{point_view}
use Rattle.rvs_index.specs.Index.{places, places_in}
use Rattle.rvs_index.proofs.slots.add_points.Given as goal

abbrev pub invariant-loop-point : goal.invariant-loop-point
invariant-loop-point l = record {
  place : l.at ≡ l.first + l.point-index;
  same : places l.slots ++ places_in l.key l.at (map point_view (drop l.point-index l.points))
      ≡ places l.initial.slots ++ places_in l.key l.first (map point_view l.points);
}
