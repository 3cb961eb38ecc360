use Rattle.std.proofs.Common.{◌≡◌, ◌<◌, ◌≤◌, ◌+◌, ◌-◌, ◌^◌, ℕ, All, length}
use Rattle.rvs_index.specs.Marks.{raised_marks}
use Rattle.rvs_index.specs.declared.mark.Mark.{Mark}
use Rattle.rvs_index.proofs.mark.add_groups.Given as goal

abbrev pub invariant-loop-rest : goal.invariant-loop-rest
invariant-loop-rest l = record {
  same : raised_marks l.signs l.marks l.initial.counts ≡ raised_marks l.signs l.rest l.counts;
  len : length l.counts ≡ length l.initial.counts;
  short : length l.rest ≤ length l.marks;
  within : All (λ (m : Mark). m.at < length l.counts) l.rest;
  low : All (λ (n : ℕ). n ≤ 2 ^ 41 + (length l.marks - length l.rest)) l.counts;
}

abbrev pub decreases-loop-rest : goal.decreases-loop-rest
decreases-loop-rest l = length l.rest
