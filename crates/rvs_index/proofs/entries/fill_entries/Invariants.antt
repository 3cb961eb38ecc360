use Rattle.std.proofs.Common.{◌≡◌, length}
use Rattle.rvs_index.specs.Entries.{HasEntries}
use Rattle.rvs_index.proofs.entries.fill_entries.Given as goal

abbrev pub invariant-loop-number : goal.invariant-loop-number
invariant-loop-number l = record {
  each : HasEntries l.cells l.entries;
  count : length l.entries ≡ l.number;
}
