use Rattle.std.proofs.Common.{length, arith}
use Rattle.std.specs.Prelude.{find, flat_map}
use Rattle.rvs_solver.specs.RegisterWalk.{hits_of, with_rd, rd_cost}
use Rattle.rvs_cross.proofs.Searching.{turn_found, turn_none, within_rows}
use Rattle.rvs_solver.proofs.registers.RegisterSearch.first.Goals as goal

pub returns-in-Some-clause-first : goal.returns-in-Some-clause-first
returns-in-Some-clause-first g c =
    let s = c.args.self.now in
    turn_found (hits_of s) (with_rd s) s.rds.now c.loop-rd.rd-index _ c.in-Some.choice
    (find (hits_of s) (flat_map (with_rd s) s.rds.now)) (omega arith) c.loop-rd.invariant.first
    c.in-Some.ensures.first

pub loop-rd-preserved : goal.loop-rd-preserved
loop-rd-preserved g c =
    let s = c.args.self.now in
    record {
      first = turn_none (hits_of s) (with_rd s) s.rds.now c.loop-rd.rd-index _
          (find (hits_of s) (flat_map (with_rd s) s.rds.now)) (omega arith)
          c.loop-rd.invariant.first c.in-None.ensures.first;
      cost = omega (arith, c.in-None.ensures.cost, c.loop-rd.invariant.cost);
    }

pub returns-in-Some-clause-cost : goal.returns-in-Some-clause-cost
returns-in-Some-clause-cost g c =
    within_rows c.first_at_rd.new.steps c.loop-rd.steps c.args.steps.now c.loop-rd.rd-index
    (length c.args.self.now.rds.now) (rd_cost c.args.self.now) (omega arith)
    c.loop-rd.invariant.cost c.in-Some.ensures.cost
