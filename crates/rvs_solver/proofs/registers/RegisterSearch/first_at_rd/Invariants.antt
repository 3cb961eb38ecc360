use Rattle.std.proofs.Common.{◌≡◌, ◌≤◌, ◌+◌, ◌*◌, drop}
use Rattle.std.specs.Prelude.{find, flat_map}
use Rattle.rvs_solver.specs.RegisterWalk.{hits_of, with_rs1, rs1_cost}
use Rattle.rvs_solver.proofs.registers.RegisterSearch.first_at_rd.Given as goal

abbrev pub invariant-loop-rs1 : goal.invariant-loop-rs1
invariant-loop-rs1 g l = record {
  first : find (hits_of l.self) (flat_map (with_rs1 l.self l.rd) l.self.rs1s.now)
      ≡ find (hits_of l.self) (flat_map (with_rs1 l.self l.rd) (drop l.rs1-index l.self.rs1s.now));
  cost : l.steps ≤ l.fn.steps + l.rs1-index * rs1_cost l.self;
}
