use Rattle.std.proofs.Common.{◌≡◌, length}
use Rattle.rvs_index.specs.Marks.{HasPlaceHeads}
use Rattle.rvs_index.proofs.mark.fill_places.Given as goal

abbrev pub invariant-loop-number : goal.invariant-loop-number
invariant-loop-number l = record {
  each : HasPlaceHeads l.lists l.heads;
  count : length l.heads ≡ l.number;
}
