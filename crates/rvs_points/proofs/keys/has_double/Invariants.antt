use Rattle.std.proofs.Common.{◌≡◌, length}
use Rattle.rvs_points.specs.Keys.{has_double}
use Rattle.rvs_points.proofs.keys.has_double.Given as goal

abbrev pub invariant-loop-rest : goal.invariant-loop-rest
invariant-loop-rest l = has_double l.byte l.rest ≡ has_double l.byte l.fn.text

abbrev pub decreases-loop-rest : goal.decreases-loop-rest
decreases-loop-rest l = length l.rest
