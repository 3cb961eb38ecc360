use Rattle.std.proofs.Common.{◌≡◌, ◌+◌, ◌^◌, ◌≤◌, ℕ, All, drop, length}
use Rattle.rvs_index.specs.Counting.{aims_in}
use Rattle.rvs_index.specs.Index.{added_lasts}
use Rattle.rvs_index.proofs.crosses.Crosses.add_lasts.Given as goal

abbrev pub invariant-loop-count : goal.invariant-loop-count
invariant-loop-count l = record {
  same : added_lasts (drop l.count-index l.lengths) l.run (aims_in l.self) l.counts
      ≡ added_lasts l.lengths l.run (aims_in l.self) l.fn.counts;
  count : length l.counts ≡ length (aims_in l.self);
  low : All (λ (n : ℕ). n ≤ 2 ^ 41 + l.count-index) l.counts;
}
