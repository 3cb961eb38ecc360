use Rattle.std.proofs.Common.{◌∙◌, sym, arith}
use Rattle.std.specs.Prelude.{find, flat_map}
use Rattle.rvs_insn.specs.Table.{row}
use Rattle.rvs_points.specs.PointView.{meaning_view}
use Rattle.rvs_solver.specs.RegisterWalk.{hits_of, with_rs1}
use Rattle.rvs_cross.proofs.Searching.{turn_found, turn_none}
use Rattle.rvs_solver.proofs.Others.{other_rd}
use Rattle.rvs_solver.proofs.registers.RegisterSearch.first_at_rd.Goals as goal

pub returns-then-asks_other_rd-clause-first : goal.returns-then-asks_other_rd-clause-first
returns-then-asks_other_rd-clause-first g c =
    let s = c.args.self.now in
    other_rd s.kind (meaning_view s.meaning.now) s.memory s.op (row s.op).form s.rs1s.now s.rs2s.now
    c.args.rd (sym c.asks_other_rd.ensures ∙ c.if-asks_other_rd.true)

pub returns-in-Some-clause-first : goal.returns-in-Some-clause-first
returns-in-Some-clause-first g c =
    let s = c.args.self.now in
    turn_found (hits_of s) (with_rs1 s c.args.rd) s.rs1s.now c.loop-rs1.rs1-index _
    c.in-Some.choice (find (hits_of s) (flat_map (with_rs1 s c.args.rd) s.rs1s.now))
    (omega arith) c.loop-rs1.invariant.first c.in-Some.ensures.first

pub loop-rs1-preserved : goal.loop-rs1-preserved
loop-rs1-preserved g c =
    let s = c.args.self.now in
    record {
      first = turn_none (hits_of s) (with_rs1 s c.args.rd) s.rs1s.now c.loop-rs1.rs1-index _
          (find (hits_of s) (flat_map (with_rs1 s c.args.rd) s.rs1s.now)) (omega arith)
          c.loop-rs1.invariant.first c.in-None.ensures.first;
      cost = omega (arith, c.in-None.ensures.cost, c.loop-rs1.invariant.cost);
    }
