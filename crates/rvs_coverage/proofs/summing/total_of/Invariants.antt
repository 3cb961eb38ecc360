use Rattle.std.proofs.Common.{◌≡◌, drop}
use Rattle.rvs_coverage.specs.Summing.{summed, total_of}
use Rattle.rvs_coverage.proofs.summing.total_of.Given as goal

abbrev pub invariant-loop-number : goal.invariant-loop-number
invariant-loop-number l =
    summed (λ n. n) l.total (drop l.number-index l.numbers) ≡ total_of l.numbers
