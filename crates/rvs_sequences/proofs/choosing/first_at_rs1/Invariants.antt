use Rattle.std.proofs.Common.{◌≡◌, ◌≤◌, ◌+◌, drop}
use Rattle.std.specs.Prelude.{find}
use Rattle.rvs_cross.specs.CrossView.{place_view}
use Rattle.rvs_cross.specs.Windows.{fits}
use Rattle.rvs_sequences.specs.Sequences.{at_rs1}
use Rattle.rvs_sequences.proofs.choosing.first_at_rs1.Given as goal

abbrev pub invariant-loop-rs2 : goal.invariant-loop-rs2
invariant-loop-rs2 g l = record {
  first : find (fits l.values (place_view l.place)) (at_rs1 l.op l.imm l.rs2s l.rd l.rs1)
      ≡ find (fits l.values (place_view l.place))
      (at_rs1 l.op l.imm (drop l.rs2-index l.rs2s) l.rd l.rs1);
  cost : l.steps ≤ l.fn.steps + l.rs2-index;
}
