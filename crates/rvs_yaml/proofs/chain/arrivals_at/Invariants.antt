use Rattle.std.proofs.Common.{◌≤◌, length}
use Rattle.rvs_yaml.proofs.chain.arrivals_at.Given as goal

abbrev pub invariant-loop-i : goal.invariant-loop-i
invariant-loop-i l = l.i ≤ length l.arrivals

abbrev pub decreases-loop-i : goal.decreases-loop-i
decreases-loop-i l = l.i
