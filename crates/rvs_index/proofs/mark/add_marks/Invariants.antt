use Rattle.std.proofs.Common.{◌≡◌, ◌≤◌, ◌+◌, ◌^◌, ℕ, All, drop, length}
use Rattle.rvs_index.specs.Marks.{raised_marks}
use Rattle.rvs_index.proofs.mark.add_marks.Given as goal

abbrev pub invariant-loop-mark : goal.invariant-loop-mark
invariant-loop-mark l = record {
  same : raised_marks l.signs l.marks l.initial.counts
      ≡ raised_marks l.signs (drop l.mark-index l.marks) l.counts;
  len : length l.counts ≡ length l.initial.counts;
  low : All (λ (n : ℕ). n ≤ 2 ^ 62 + l.mark-index) l.counts;
}
