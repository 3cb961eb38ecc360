use Rattle.std.proofs.Common.{◌≡◌, ◌≤◌, ◌+◌, ◌^◌, ℕ, All, drop, length}
use Rattle.rvs_index.specs.Index.{is_matched, places, raised_all}
use Rattle.rvs_index.proofs.matched.add_counted.Given as goal

abbrev pub invariant-loop-slot : goal.invariant-loop-slot
invariant-loop-slot g l = record {
  same : raised_all (λ p. is_matched p.meaning l.window) (places l.slots) l.initial.counts
      ≡ raised_all (λ p. is_matched p.meaning l.window) (places (drop l.slot-index l.slots))
      l.counts;
  len : length l.counts ≡ length l.initial.counts;
  low : All (λ (n : ℕ). n ≤ 2 ^ 42 + l.slot-index) l.counts;
}
