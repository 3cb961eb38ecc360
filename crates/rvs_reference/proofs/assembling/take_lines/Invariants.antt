use Rattle.std.proofs.Common.{◌≤◌, ◌+◌, length}
use Rattle.rvs_asm.proofs.TextLines.{Taken}
use Rattle.rvs_reference.proofs.assembling.take_lines.Given as goal

abbrev pub invariant-loop-line : goal.invariant-loop-line
invariant-loop-line l = record {
  taken : Taken l.spec l.text l.rest l.assembler;
  count : l.assembler.lines + length l.rest ≤ length l.text;
}

abbrev pub decreases-loop-line : goal.decreases-loop-line
decreases-loop-line l = length l.rest
