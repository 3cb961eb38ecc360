use Rattle.std.proofs.Common.{◌∙◌, ap, arith}
use Rattle.rvs_points.specs.PointView.{label_view}
use Rattle.rvs_test.specs.Found.{found_view, found_before}
use Rattle.rvs_test.proofs.Loops.{found_none, found_more}
use Rattle.rvs_test.proofs.Ends.{cost_turn, cost_within, end_is, end_at}
use Rattle.rvs_test.proofs.finding.add_points.Goals as goal

pub loop-point-init : goal.loop-point-init
loop-point-init g c =
    record {
      found = c.requires.none ∙ found_none c.args.spec.now (label_view c.args.label.now);
      cost = omega arith;
    }

pub loop-point-preserved : goal.loop-point-preserved
loop-point-preserved g c =
    let l = label_view c.args.label.now in
    let k = c.loop-point.point in
    record {
      found =
          found_more c.args.spec.now l k (found_view c.loop-point.found)
          (found_view c.add_point.new.found) c.in_ok-solved.solved c.loop-point.invariant.found
          c.in_ok-solved.ensures.first c.in_ok-add_point.ensures;
      cost =
          cost_turn c.args.spec.now c.args.label.now k c.solve.new.steps c.loop-point.steps
          c.args.steps.now
          (end_is c.args.label.now c.as_slice-point-end.result.now k c.as_slice-point-end.ensures
          c.loop-point-test.true) c.loop-point.invariant.cost c.solve.ensures.cost;
    }

pub returns-in_err-solved-clause-cost : goal.returns-in_err-solved-clause-cost
returns-in_err-solved-clause-cost g c =
    cost_within c.args.spec.now c.args.label.now c.loop-point.point c.solve.new.steps
    c.loop-point.steps c.args.steps.now
    (end_is c.args.label.now c.as_slice-point-end.result.now c.loop-point.point
    c.as_slice-point-end.ensures c.loop-point-test.true) c.loop-point.invariant.cost
    c.solve.ensures.cost

pub returns-in_err-add_point-clause-cost : goal.returns-in_err-add_point-clause-cost
returns-in_err-add_point-clause-cost g c =
    cost_within c.args.spec.now c.args.label.now c.loop-point.point c.solve.new.steps
    c.loop-point.steps c.args.steps.now
    (end_is c.args.label.now c.as_slice-point-end.result.now c.loop-point.point
    c.as_slice-point-end.ensures c.loop-point-test.true) c.loop-point.invariant.cost
    c.solve.ensures.cost

pub returns-clause-found : goal.returns-clause-found
returns-clause-found g c =
    c.loop-point.invariant.found
    ∙ ap (found_before c.args.spec.now (label_view c.args.label.now))
    (end_at c.args.label.now c.as_slice-point-end.result.now c.loop-point.point
    c.as_slice-point-end.ensures
    (omega (arith, c.loop-point-test.false, c.loop-point.auto.point-end)))
