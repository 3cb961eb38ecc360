use Rattle.std.proofs.Common.{◌≡◌, length}
use Rattle.rvs_asm_text.specs.Text.{drop_blanks}
use Rattle.rvs_asm_text.proofs.cutting.without_front.Given as goal

abbrev pub invariant-loop-text : goal.invariant-loop-text
invariant-loop-text l = drop_blanks l.fn.text ≡ drop_blanks l.text

abbrev pub decreases-loop-text : goal.decreases-loop-text
decreases-loop-text l = length l.text
