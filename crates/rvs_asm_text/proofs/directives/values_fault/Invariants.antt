use Rattle.std.proofs.Common.{◌≡◌, length}
use Rattle.rvs_asm_text.specs.Directives.{values_fault}
use Rattle.rvs_asm_text.proofs.ValueFaults.{fault_after}
use Rattle.rvs_asm_text.proofs.directives.values_fault.Given as goal

abbrev pub invariant-loop-text : goal.invariant-loop-text
invariant-loop-text l = fault_after l.size l.wide l.operands ≡ values_fault l.size l.fn.operands

abbrev pub decreases-loop-text : goal.decreases-loop-text
decreases-loop-text l = length l.operands
