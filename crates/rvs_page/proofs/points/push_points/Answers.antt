use Rattle.rvs_page.proofs.Telling.{behind, more-told, all-told}
use Rattle.rvs_page.specs.Points.{label_points, points_text}
use Rattle.rvs_page.proofs.points.push_points.Goals as goal

pub loop-label-preserved : goal.loop-label-preserved
loop-label-preserved c =
    more-told (label_points c.args.counted) c.loop-label.page.items c.args.labels.now _
    c.loop-label-test.true c.label-item.is c.in_ok-push_label.ensures c.loop-label.invariant

pub returns : goal.returns
unfolding points_text
returns c =
    behind c.push_html-2.result c.args.page.now.items c.push_html.new.page.items
    c.push_html-2.new.page.items _ _ c.in_ok-push_html.ensures
    (behind c.push_html-2.result c.push_html.new.page.items c.loop-label.page.items
    c.push_html-2.new.page.items _ _
    (all-told (label_points c.args.counted) c.loop-label.page.items c.args.labels.now
    c.loop-label-test.false c.loop-label.invariant)
    c.push_html-2.ensures)
