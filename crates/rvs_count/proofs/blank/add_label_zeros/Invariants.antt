use Rattle.std.proofs.Common.{◌≡◌, ◌++◌, replicate}
use Rattle.rvs_count.proofs.blank.add_label_zeros.Given as goal

abbrev pub invariant-loop : goal.invariant-loop
invariant-loop l = l.counts.items ≡ l.initial.counts.items ++ replicate l.counter 0
