use Rattle.std.proofs.Common.{◌<◌, ◌≤◌, ◌-◌}
use Rattle.rvs_yaml.proofs.chain.place_at.Given as goal

abbrev pub invariant-loop-high : goal.invariant-loop-high
invariant-loop-high l = (l.first ≤ l.low) × (l.low < l.high) × (l.high ≤ l.end)

abbrev pub decreases-loop-high : goal.decreases-loop-high
decreases-loop-high l = l.high - l.low
