use Rattle.rvs_page.proofs.Telling.{more-told, all-told}
use Rattle.rvs_page.specs.Points.{point_row}
use Rattle.rvs_page.proofs.points.push_each_point.Goals as goal

pub loop-point-preserved : goal.loop-point-preserved
loop-point-preserved c =
    more-told (point_row c.args.counted) c.loop-point.page.items c.args.points.now _
    c.loop-point-test.true c.point-item.is c.in_ok-push_point.ensures c.loop-point.invariant

pub returns : goal.returns
returns c =
    all-told (point_row c.args.counted) c.loop-point.page.items c.args.points.now
    c.loop-point-test.false c.loop-point.invariant
