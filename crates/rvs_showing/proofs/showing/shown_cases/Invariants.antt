use Rattle.std.proofs.Common.{◌≡◌, ◌++◌, map, drop}
use Rattle.rvs_base.specs.Lines.{cut_lines}
use Rattle.rvs_points.specs.PointView.{point_view}
use Rattle.rvs_showing.specs.Showing.{shown_cases}
use Rattle.rvs_showing.proofs.showing.shown_cases.Given as goal

abbrev pub invariant-loop-claim : goal.invariant-loop-claim
invariant-loop-claim l =
    l.shown ++ shown_cases l.found (map point_view l.label.points) (cut_lines l.rest)
    (drop l.claim-index l.claims)
    ≡ shown_cases l.found (map point_view l.label.points) (cut_lines l.text) l.claims
