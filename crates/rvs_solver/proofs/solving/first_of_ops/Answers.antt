use Rattle.std.proofs.Common.{◌∙◌, sym, arith}
use Rattle.std.specs.Prelude.{find, flat_map}
use Rattle.rvs_points.specs.PointView.{meaning_view}
use Rattle.rvs_solver.specs.Choices.{choices}
use Rattle.rvs_solver.specs.Point.{hits, constants_of}
use Rattle.rvs_solver.specs.Bound.{bound_of}
use Rattle.rvs_cross.proofs.Searching.{turn_found, turn_none, sum_turn}
use Rattle.rvs_solver.proofs.Turns.{within_sum}
use Rattle.rvs_solver.proofs.solving.first_of_ops.Goals as goal

pub returns-in-Some-clause-first : goal.returns-in-Some-clause-first
returns-in-Some-clause-first g c =
    turn_found (hits c.args.kind (meaning_view c.args.meaning.now))
    (λ op. choices c.args.spec.now op (constants_of (meaning_view c.args.meaning.now)))
    c.args.ops.now c.loop-op.op-index _ c.in-Some.choice
    (find (hits c.args.kind (meaning_view c.args.meaning.now))
    (flat_map (λ op. choices c.args.spec.now op (constants_of (meaning_view c.args.meaning.now)))
    c.args.ops.now)) (omega arith) c.loop-op.invariant.first
    (sym c.in-Some.is ∙ c.in_ok-choice.ensures.first)

pub returns-in-Some-clause-cost : goal.returns-in-Some-clause-cost
returns-in-Some-clause-cost g c =
    within_sum (bound_of c.args.spec.now (meaning_view c.args.meaning.now)) c.args.ops.now
    c.loop-op.op-index _ c.first_of_op.new.steps c.loop-op.steps c.args.steps.now (omega arith)
    c.loop-op.invariant.cost c.first_of_op.ensures.cost

pub loop-op-preserved : goal.loop-op-preserved
loop-op-preserved g c = record {
  first = turn_none (hits c.args.kind (meaning_view c.args.meaning.now))
      (λ op. choices c.args.spec.now op (constants_of (meaning_view c.args.meaning.now)))
      c.args.ops.now c.loop-op.op-index _
      (find (hits c.args.kind (meaning_view c.args.meaning.now))
      (flat_map (λ op. choices c.args.spec.now op (constants_of (meaning_view c.args.meaning.now)))
      c.args.ops.now)) (omega arith) c.loop-op.invariant.first
      (sym c.in-None.is ∙ c.in_ok-choice.ensures.first);
  cost = sum_turn (bound_of c.args.spec.now (meaning_view c.args.meaning.now)) c.args.ops.now
      c.loop-op.op-index _ c.first_of_op.new.steps c.loop-op.steps c.args.steps.now (omega arith)
      c.loop-op.invariant.cost c.first_of_op.ensures.cost;
}
