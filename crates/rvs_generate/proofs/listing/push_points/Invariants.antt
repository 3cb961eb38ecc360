use Rattle.std.proofs.Common.{◌≡◌, ◌++◌, map, drop}
use Rattle.rvs_cgf.specs.GroupView.{point_view}
use Rattle.rvs_generate.specs.GenerateTexts.{point_lines}
use Rattle.rvs_generate.proofs.listing.push_points.Given as goal

abbrev pub invariant-loop-place : goal.invariant-loop-place
invariant-loop-place l =
    l.text ++ point_lines l.rest l.place (map point_view (drop l.place l.points))
    ≡ l.fn.text ++ point_lines l.claims 0 (map point_view l.points)
