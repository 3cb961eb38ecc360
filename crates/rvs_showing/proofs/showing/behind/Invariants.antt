use Rattle.std.proofs.Common.{◌≡◌, length}
use Rattle.rvs_base.specs.Lines.{cut_lines}
use Rattle.rvs_showing.specs.Showing.{behind}
use Rattle.rvs_showing.proofs.showing.behind.Given as goal

abbrev pub invariant-loop-line : goal.invariant-loop-line
invariant-loop-line l = behind l.symbol (cut_lines l.rest) ≡ behind l.symbol (cut_lines l.text)

abbrev pub decreases-loop-line : goal.decreases-loop-line
decreases-loop-line l = length l.rest
