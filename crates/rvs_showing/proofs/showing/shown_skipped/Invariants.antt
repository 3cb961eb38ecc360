use Rattle.std.proofs.Common.{◌≡◌, ◌++◌, map, drop}
use Rattle.rvs_points.specs.PointView.{skipped_view}
use Rattle.rvs_showing.specs.Showing.{shown_skipped}
use Rattle.rvs_showing.proofs.showing.shown_skipped.Given as goal

abbrev pub invariant-loop-one : goal.invariant-loop-one
invariant-loop-one l =
    l.shown ++ map shown_skipped (map skipped_view (drop l.one-index l.skipped))
    ≡ map shown_skipped (map skipped_view l.skipped)
