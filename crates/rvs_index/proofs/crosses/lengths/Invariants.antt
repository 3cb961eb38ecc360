use Rattle.std.proofs.Common.{◌≡◌}
use Rattle.rvs_index.specs.Counting.{aims_in}
use Rattle.rvs_index.specs.Index.{lengths_to}
use Rattle.rvs_index.proofs.crosses.lengths.Given as goal

abbrev pub invariant-loop-shorter : goal.invariant-loop-shorter
invariant-loop-shorter l = l.lengths ≡ lengths_to (aims_in l.labels) l.shorter
