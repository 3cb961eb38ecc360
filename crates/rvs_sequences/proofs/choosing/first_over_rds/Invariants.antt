use Rattle.std.proofs.Common.{◌≡◌, ◌≤◌, ◌+◌, ◌*◌, length, drop}
use Rattle.std.specs.Prelude.{find}
use Rattle.rvs_cross.specs.CrossView.{place_view}
use Rattle.rvs_cross.specs.Windows.{fits}
use Rattle.rvs_sequences.specs.Sequences.{over_registers}
use Rattle.rvs_sequences.proofs.choosing.first_over_rds.Given as goal

abbrev pub invariant-loop-rd : goal.invariant-loop-rd
invariant-loop-rd g l = record {
  first : find (fits l.values (place_view l.place)) (over_registers l.op l.imm l.rds l.rs1s l.rs2s)
      ≡ find (fits l.values (place_view l.place))
      (over_registers l.op l.imm (drop l.rd-index l.rds) l.rs1s l.rs2s);
  cost : l.steps ≤ l.fn.steps + l.rd-index * (length l.rs1s * length l.rs2s);
}
