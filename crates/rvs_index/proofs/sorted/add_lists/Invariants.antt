use Rattle.std.proofs.Common.{◌≡◌, ◌+◌, ◌*◌, length}
use Rattle.rvs_index.specs.Buckets.{bucket_count}
use Rattle.rvs_index.specs.Index.{IsIndex, insns_key}
use Rattle.rvs_index.proofs.sorted.add_lists.Given as goal

abbrev pub invariant-loop-bucket : goal.invariant-loop-bucket
invariant-loop-bucket l = record {
  index : IsIndex insns_key l.labels l.lists;
  count : length l.lists ≡ l.mnemonic * bucket_count + l.bucket;
}
