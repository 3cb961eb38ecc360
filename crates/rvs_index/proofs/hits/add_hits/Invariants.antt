use Rattle.std.proofs.Common.{◌≡◌, ◌≤◌, ◌+◌, ◌^◌, ℕ, All, drop, length}
use Rattle.rvs_points.specs.Hits.{holds}
use Rattle.rvs_index.specs.Index.{places, raised_all}
use Rattle.rvs_index.proofs.hits.add_hits.Given as goal

abbrev pub invariant-loop-slot : goal.invariant-loop-slot
invariant-loop-slot g l = record {
  same : raised_all (λ p. holds p l.op (g.F.Facts.table l.facts)) (places l.slots)
      l.initial.counts
      ≡ raised_all (λ p. holds p l.op (g.F.Facts.table l.facts))
      (places (drop l.slot-index l.slots)) l.counts;
  len : length l.counts ≡ length l.initial.counts;
  low : All (λ (n : ℕ). n ≤ 2 ^ 41 + l.slot-index) l.counts;
}
