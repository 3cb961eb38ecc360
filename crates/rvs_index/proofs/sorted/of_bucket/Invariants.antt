use Rattle.std.proofs.Common.{◌≡◌, ◌++◌, drop}
use Rattle.rvs_index.specs.Index.{in_bucket, places}
use Rattle.rvs_index.proofs.sorted.of_bucket.Given as goal

abbrev pub invariant-loop-slot : goal.invariant-loop-slot
invariant-loop-slot l = record {
  same : places l.list ++ in_bucket l.bucket (places (drop l.slot-index l.slots))
      ≡ in_bucket l.bucket (places l.slots);
}
