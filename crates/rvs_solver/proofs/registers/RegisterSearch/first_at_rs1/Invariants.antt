use Rattle.std.proofs.Common.{◌≡◌, ◌≤◌, ◌+◌, ◌*◌, map, drop}
use Rattle.std.specs.Prelude.{find}
use Rattle.rvs_insn.specs.Table.{row}
use Rattle.rvs_points.specs.PointView.{meaning_view}
use Rattle.rvs_points.specs.Hits.{steps_of}
use Rattle.rvs_solver.specs.Least.{least}
use Rattle.rvs_solver.specs.RegisterWalk.{hits_of, with_rs1}
use Rattle.rvs_solver.proofs.registers.RegisterSearch.first_at_rs1.Given as goal

abbrev pub invariant-loop-rs2 : goal.invariant-loop-rs2
invariant-loop-rs2 g l = record {
  first : find (hits_of l.self) (with_rs1 l.self l.rd l.rs1)
      ≡ find (hits_of l.self) (map (λ rs2. least l.self.memory l.self.op (row l.self.op).form
      (record { rd = l.rd; rs1 = l.rs1; rs2 = rs2 })) (drop l.rs2-index l.self.rs2s.now));
  cost : l.steps ≤ l.fn.steps + l.rs2-index * steps_of (meaning_view l.self.meaning.now);
}
