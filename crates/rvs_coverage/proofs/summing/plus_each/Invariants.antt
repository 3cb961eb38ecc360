use Rattle.std.proofs.Common.{◌≡◌}
use Rattle.rvs_coverage.specs.Summing.{plus_each}
use Rattle.rvs_coverage.proofs.Sums.{done_to}
use Rattle.rvs_coverage.proofs.summing.plus_each.Given as goal

abbrev pub invariant-loop-at : goal.invariant-loop-at
invariant-loop-at l = done_to l.at l.sums.items l.others ≡ plus_each l.fn.numbers l.others
