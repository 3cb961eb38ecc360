use Rattle.std.proofs.Common.{◌≡◌, length, zero}
use Rattle.rvs_points.specs.Keys.{has_call}
use Rattle.rvs_points.proofs.keys.has_call.Given as goal

abbrev pub invariant-loop-rest : goal.invariant-loop-rest
invariant-loop-rest l = has_call zero l.rest ≡ has_call zero l.fn.text

abbrev pub decreases-loop-rest : goal.decreases-loop-rest
decreases-loop-rest l = length l.rest
