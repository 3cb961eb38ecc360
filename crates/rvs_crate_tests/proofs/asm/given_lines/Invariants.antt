use Rattle.std.proofs.Common.{◌≤◌, ◌+◌, length}
use Rattle.rvs_crate_tests.proofs.asm.given_lines.Given as goal

abbrev pub invariant-loop-line : goal.invariant-loop-line
invariant-loop-line l = record { count : l.assembler.lines + length l.rest ≤ length l.text }

abbrev pub decreases-loop-line : goal.decreases-loop-line
decreases-loop-line l = length l.rest
