use Rattle.std.proofs.Common.{◌≡◌, length}
use Rattle.rvs_asm_text.specs.Text.{lines_of}
use Rattle.rvs_asm_text.specs.Header.{first_steps}
use Rattle.rvs_asm_text.proofs.header.steps_of_header.Given as goal

abbrev pub invariant-loop-line : goal.invariant-loop-line
invariant-loop-line l = first_steps (lines_of l.fn.text) ≡ first_steps (lines_of l.rest)

abbrev pub decreases-loop-line : goal.decreases-loop-line
decreases-loop-line l = length l.rest
