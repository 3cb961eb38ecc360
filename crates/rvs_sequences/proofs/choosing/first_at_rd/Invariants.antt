use Rattle.std.proofs.Common.{◌≡◌, ◌≤◌, ◌+◌, ◌*◌, length, drop}
use Rattle.std.specs.Prelude.{find}
use Rattle.rvs_cross.specs.CrossView.{place_view}
use Rattle.rvs_cross.specs.Windows.{fits}
use Rattle.rvs_sequences.specs.Sequences.{at_rd}
use Rattle.rvs_sequences.proofs.choosing.first_at_rd.Given as goal

abbrev pub invariant-loop-rs1 : goal.invariant-loop-rs1
invariant-loop-rs1 g l = record {
  first : find (fits l.values (place_view l.place)) (at_rd l.op l.imm l.rs1s l.rs2s l.rd)
      ≡ find (fits l.values (place_view l.place))
      (at_rd l.op l.imm (drop l.rs1-index l.rs1s) l.rs2s l.rd);
  cost : l.steps ≤ l.fn.steps + l.rs1-index * length l.rs2s;
}
