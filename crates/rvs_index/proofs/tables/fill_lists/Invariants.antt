use Rattle.std.proofs.Common.{◌≡◌, ◌*◌, length}
use Rattle.rvs_index.specs.Buckets.{bucket_count}
use Rattle.rvs_index.specs.Index.{IsIndex, insns_key}
use Rattle.rvs_index.proofs.tables.fill_lists.Given as goal

abbrev pub invariant-loop-mnemonic : goal.invariant-loop-mnemonic
invariant-loop-mnemonic l = record {
  index : IsIndex insns_key l.labels l.lists;
  count : length l.lists ≡ l.mnemonic * bucket_count;
}
