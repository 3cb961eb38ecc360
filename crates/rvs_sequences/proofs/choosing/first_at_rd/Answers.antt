use Rattle.std.proofs.Common.{arith}
use Rattle.std.specs.Prelude.{find}
use Rattle.rvs_cross.specs.CrossView.{place_view}
use Rattle.rvs_cross.specs.Windows.{fits}
use Rattle.rvs_sequences.specs.Sequences.{at_rs1, at_rd}
use Rattle.rvs_sequences.proofs.Excluding.{none_at_rd}
use Rattle.rvs_cross.proofs.Searching.{turn_found, turn_none}
use Rattle.rvs_sequences.proofs.choosing.first_at_rd.Goals as goal

pub returns-then-not-allows-clause-first : goal.returns-then-not-allows-clause-first
returns-then-not-allows-clause-first g c =
    none_at_rd c.args.values.now (place_view c.args.place.now) c.args.op c.args.imm
    c.args.rs1s.now c.args.rs2s.now c.args.rd c.as_slice.result.now c.allows.result
    c.as_slice.ensures c.allows.ensures c.if-not-allows.true

pub returns-in-Some-clause-first : goal.returns-in-Some-clause-first
returns-in-Some-clause-first g c =
    turn_found (fits c.args.values.now (place_view c.args.place.now))
    (at_rs1 c.args.op c.args.imm c.args.rs2s.now c.args.rd) c.args.rs1s.now c.loop-rs1.rs1-index _
    c.in-Some.insn (find (fits c.args.values.now (place_view c.args.place.now))
    (at_rd c.args.op c.args.imm c.args.rs1s.now c.args.rs2s.now c.args.rd)) (omega arith)
    c.loop-rs1.invariant.first c.in-Some.ensures.first

pub loop-rs1-preserved : goal.loop-rs1-preserved
loop-rs1-preserved g c = record {
  first = turn_none (fits c.args.values.now (place_view c.args.place.now))
      (at_rs1 c.args.op c.args.imm c.args.rs2s.now c.args.rd) c.args.rs1s.now
      c.loop-rs1.rs1-index _ (find (fits c.args.values.now (place_view c.args.place.now))
      (at_rd c.args.op c.args.imm c.args.rs1s.now c.args.rs2s.now c.args.rd)) (omega arith)
      c.loop-rs1.invariant.first c.in-None.ensures.first;
  cost = omega (arith, c.in-None.ensures.cost, c.loop-rs1.invariant.cost);
}
