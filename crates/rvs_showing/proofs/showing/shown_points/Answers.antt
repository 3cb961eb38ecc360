use Rattle.std.proofs.Common.{◌≡◌, ◌<◌, ◌+◌, ◌∷◌, ◌++◌, List, [], length, map, drop, get_or, ap}
use Rattle.std.proofs.Common.{◌∙◌, arith}
use Rattle.rvs_points.specs.PointView.{point_view}
use Rattle.rvs_points.specs.declared.group.Point.{Point}
use Rattle.rvs_page.specs.declared.shown.Point.{Point as ShownPoint}
use Rattle.rvs_test_text.specs.declared.claim.Claim.{Claim}
use Rattle.rvs_test_text.specs.Claims.{case_at}
use Rattle.rvs_showing.specs.Showing.{word_at, shown_point, shown_points}
use Rattle.rvs_showing.proofs.Shows.{points_more}
use Rattle.rvs_showing.proofs.showing.shown_points.Goals as goal

pub loop-place-preserved : goal.loop-place-preserved
loop-place-preserved c =
    let found = c.args.found.now in
    let counts = c.args.counts.now in
    let ps = c.args.label.now.points in
    let i = c.loop-place.place in
    let d = c.point-item.result in
    let rest = c.loop-place.rest.now in
    let one = c.in_ok-shown_point.field-0 in
    let items = c.as_slice-point-items.ensures in
    let here : d ≡ get_or ps i d =
    c.point-item.is ∙ ap (λ (xs : List Point). get_or xs i d) items in
    let within : i < length ps = omega (
      arith,
      c.loop-place-test.true,
      ap (λ (xs : List Point). length xs) items,
    ) in
    let is : one ≡ shown_point found (case_at rest i) (word_at counts i)
    (point_view (get_or ps i d)) = c.in_ok-shown_point.ensures
    ∙ (λ j. shown_point found (c.case_at.ensures j) (c.count_at-hits.ensures j)
    (point_view (here j))) in
    ap (λ (xs : List ShownPoint). xs
    ++ shown_points found counts c.claims_after-rest.result.now (i + 1)
    (map point_view (drop (i + 1) ps))) c.in_ok-push.ensures.added
    ∙ ap (λ (cs : List Claim). (c.loop-place.shown ++ one ∷ [])
    ++ shown_points found counts cs (i + 1) (map point_view (drop (i + 1) ps)))
    c.claims_after-rest.ensures
    ∙ points_more found counts c.loop-place.shown one rest ps i d within is
    ∙ c.loop-place.invariant
