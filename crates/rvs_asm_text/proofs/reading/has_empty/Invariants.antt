use Rattle.std.proofs.Common.{◌≡◌, length}
use Rattle.std.specs.List.{list_any}
use Rattle.rvs_asm_text.specs.Operands.{is_empty}
use Rattle.rvs_asm_text.proofs.reading.has_empty.Given as goal

abbrev pub invariant-loop-text : goal.invariant-loop-text
invariant-loop-text l = list_any is_empty l.fn.operands ≡ list_any is_empty l.operands

abbrev pub decreases-loop-text : goal.decreases-loop-text
decreases-loop-text l = length l.operands
