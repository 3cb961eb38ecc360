use Rattle.std.proofs.Common.{◌≡◌, length}
use Rattle.rvs_index.specs.Marks.{HasMarks}
use Rattle.rvs_index.proofs.mark.marks_of.Given as goal

abbrev pub invariant-loop-slot : goal.invariant-loop-slot
invariant-loop-slot l = record {
  has : HasMarks l.audience l.slots l.marks;
  count : length l.marks ≡ l.slot-index;
}
