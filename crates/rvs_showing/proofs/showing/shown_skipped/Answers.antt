use Rattle.std.proofs.Common.{◌≡◌, ◌+◌, ◌++◌, List, map, drop, get_or, ap, ◌∙◌}
use Rattle.rvs_points.specs.PointView.{skipped_view}
use Rattle.rvs_points.specs.declared.group.Skipped.{Skipped}
use Rattle.rvs_page.specs.declared.shown.Skipped.{Skipped as ShownSkipped}
use Rattle.rvs_showing.specs.Showing.{shown_skipped}
use Rattle.rvs_showing.proofs.Shows.{entries_more}
use Rattle.rvs_showing.proofs.showing.shown_skipped.Goals as goal

pub loop-one-preserved : goal.loop-one-preserved
loop-one-preserved c =
    let ss = c.args.skipped.now in
    let i = c.loop-one.one-index in
    let d = c.one-item.result in
    let node : c.in_ok-node.node ≡ (get_or ss i d).node =
    c.in_ok-node.ensures ∙ c.as_str.ensures ∙ ap (λ (s : Skipped). s.node) c.one-item.is in
    let key : c.in_ok-key.key ≡ (get_or ss i d).key =
    c.in_ok-key.ensures ∙ c.as_str-in-loop-one.ensures
    ∙ ap (λ (s : Skipped). s.key) c.one-item.is in
    ap (λ (xs : List ShownSkipped). xs
    ++ map shown_skipped (map skipped_view (drop (i + 1) ss))) c.in_ok-push.ensures.added
    ∙ entries_more c.loop-one.shown (record { node = c.in_ok-node.node; key = c.in_ok-key.key }) ss
    i d c.loop-one-test.true (λ j. record { node = node j; key = key j })
    ∙ c.loop-one.invariant
