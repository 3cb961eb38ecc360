use Rattle.std.proofs.Common.{◌≡◌, ◌++◌, length}
use denote.Shadow.{shadow}
use denote.Text.{Utf8}
use Rattle.rvs_cgf.specs.Print.{doubled}
use Rattle.rvs_cgf.proofs.print.push_doubled.Given as goal

abbrev pub invariant-loop-front : goal.invariant-loop-front
invariant-loop-front l =
    (l.text ++ doubled l.rest ≡ l.fn.text ++ doubled l.key) × shadow (Utf8 l.rest)

abbrev pub decreases-loop-front : goal.decreases-loop-front
decreases-loop-front l = length l.rest
