use Rattle.std.proofs.Common.{length, arith}
use Rattle.std.specs.Prelude.{find, flat_map}
use Rattle.rvs_insn.specs.declared.op.Op.{Op}
use Rattle.rvs_cross.specs.CrossView.{place_view}
use Rattle.rvs_cross.specs.Windows.{fits}
use Rattle.rvs_sequences.specs.Choosing.{admitted_insns}
use Rattle.rvs_cross.proofs.Searching.{turn_found, turn_none, within_flat, sum_turn, all_flat}
use Rattle.rvs_sequences.proofs.choosing.first_of_ops.Goals as goal

pub returns-in-Some-clause-first : goal.returns-in-Some-clause-first
returns-in-Some-clause-first g c =
    turn_found (fits c.args.values.now (place_view c.args.place.now))
    (admitted_insns c.args.spec.now) c.args.ops.now c.loop-op.op-index _ c.in-Some.insn
    (find (fits c.args.values.now (place_view c.args.place.now))
    (flat_map (admitted_insns c.args.spec.now) c.args.ops.now)) (omega arith)
    c.loop-op.invariant.first c.in-Some.ensures.first

pub returns-in-Some-clause-cost : goal.returns-in-Some-clause-cost
returns-in-Some-clause-cost g c =
    within_flat (admitted_insns c.args.spec.now) c.args.ops.now c.loop-op.op-index _
    c.first_if_admitted.new.steps c.loop-op.steps c.args.steps.now (omega arith)
    c.loop-op.invariant.cost c.in-Some.ensures.cost

pub loop-op-preserved : goal.loop-op-preserved
loop-op-preserved g c = record {
  first = turn_none (fits c.args.values.now (place_view c.args.place.now))
      (admitted_insns c.args.spec.now) c.args.ops.now c.loop-op.op-index _
      (find (fits c.args.values.now (place_view c.args.place.now))
      (flat_map (admitted_insns c.args.spec.now) c.args.ops.now)) (omega arith)
      c.loop-op.invariant.first c.in-None.ensures.first;
  cost = sum_turn (λ (op : Op). length (admitted_insns c.args.spec.now op)) c.args.ops.now
      c.loop-op.op-index _ c.first_if_admitted.new.steps c.loop-op.steps c.args.steps.now
      (omega arith) c.loop-op.invariant.cost c.in-None.ensures.cost;
}

pub returns-clause-cost : goal.returns-clause-cost
returns-clause-cost g c =
    all_flat (admitted_insns c.args.spec.now) c.args.ops.now c.loop-op.op-index c.loop-op.steps
    c.args.steps.now c.loop-op.invariant.cost
