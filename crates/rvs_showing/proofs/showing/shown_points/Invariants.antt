use Rattle.std.proofs.Common.{◌≡◌, ◌++◌, map, drop}
use Rattle.rvs_points.specs.PointView.{point_view}
use Rattle.rvs_showing.specs.Showing.{shown_points}
use Rattle.rvs_showing.proofs.showing.shown_points.Given as goal

abbrev pub invariant-loop-place : goal.invariant-loop-place
invariant-loop-place l =
    l.shown ++ shown_points l.found l.counts l.rest l.place
    (map point_view (drop l.place l.label.points))
    ≡ shown_points l.found l.counts l.claims 0 (map point_view l.label.points)
