use Rattle.std.proofs.Common.{◌≡◌, drop}
use Rattle.rvs_base.specs.Lines.{cut_lines}
use Rattle.rvs_showing.specs.Showing.{code_of}
use Rattle.rvs_showing.proofs.showing.lines_of.Given as goal

abbrev pub invariant-loop-place : goal.invariant-loop-place
invariant-loop-place l =
    (l.code.items ≡ code_of l.place (cut_lines l.text))
    × (cut_lines l.rest ≡ drop l.place (cut_lines l.text))
