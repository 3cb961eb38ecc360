use Rattle.std.proofs.Common.{◌≡◌, ◌≤◌, ◌+◌, ◌*◌, drop}
use Rattle.std.specs.Prelude.{find, flat_map}
use Rattle.rvs_solver.specs.RegisterWalk.{hits_of, with_rd, rd_cost}
use Rattle.rvs_solver.proofs.registers.RegisterSearch.first.Given as goal

abbrev pub invariant-loop-rd : goal.invariant-loop-rd
invariant-loop-rd g l = record {
  first : find (hits_of l.self) (flat_map (with_rd l.self) l.self.rds.now)
      ≡ find (hits_of l.self) (flat_map (with_rd l.self) (drop l.rd-index l.self.rds.now));
  cost : l.steps ≤ l.fn.steps + l.rd-index * rd_cost l.self;
}
