use Rattle.std.proofs.Common.{arith}
use Rattle.std.specs.Prelude.{find}
use Rattle.rvs_cross.specs.CrossView.{place_view}
use Rattle.rvs_cross.specs.Windows.{fits}
use Rattle.rvs_sequences.specs.Sequences.{at_rd, over_registers}
use Rattle.rvs_cross.proofs.Searching.{turn_found, turn_none}
use Rattle.rvs_sequences.proofs.choosing.first_over_rds.Goals as goal

pub returns-in-Some-clause-first : goal.returns-in-Some-clause-first
unfolding over_registers
returns-in-Some-clause-first g c =
    turn_found (fits c.args.values.now (place_view c.args.place.now))
    (at_rd c.args.op c.args.imm c.args.rs1s.now c.args.rs2s.now) c.args.rds.now c.loop-rd.rd-index
    _ c.in-Some.insn (find (fits c.args.values.now (place_view c.args.place.now))
    (over_registers c.args.op c.args.imm c.args.rds.now c.args.rs1s.now c.args.rs2s.now))
    (omega arith) c.loop-rd.invariant.first c.in-Some.ensures.first

pub loop-rd-preserved : goal.loop-rd-preserved
unfolding over_registers
loop-rd-preserved g c = record {
  first = turn_none (fits c.args.values.now (place_view c.args.place.now))
      (at_rd c.args.op c.args.imm c.args.rs1s.now c.args.rs2s.now) c.args.rds.now
      c.loop-rd.rd-index _ (find (fits c.args.values.now (place_view c.args.place.now))
      (over_registers c.args.op c.args.imm c.args.rds.now c.args.rs1s.now c.args.rs2s.now))
      (omega arith) c.loop-rd.invariant.first c.in-None.ensures.first;
  cost = omega (arith, c.in-None.ensures.cost, c.loop-rd.invariant.cost);
}
