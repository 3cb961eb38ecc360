use Rattle.std.proofs.Common.{◌≡◌, length}
use Rattle.rvs_index.specs.Index.{IsIndex, windows_key}
use Rattle.rvs_index.proofs.crosses.fill_lists.Given as goal

abbrev pub invariant-loop-number : goal.invariant-loop-number
invariant-loop-number l = record {
  index : IsIndex windows_key l.labels l.lists;
  count : length l.lists ≡ l.number;
}
