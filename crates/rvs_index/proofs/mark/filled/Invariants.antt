use Rattle.std.proofs.Common.{◌≡◌, ◌+◌, length}
use Rattle.rvs_index.specs.Marks.{AreFilled}
use Rattle.rvs_index.proofs.mark.filled.Given as goal

abbrev pub invariant-loop : goal.invariant-loop
invariant-loop l = record {
  filled : AreFilled l.fn.marks l.marks;
  count : length l.marks ≡ length l.fn.marks + l.counter;
}
