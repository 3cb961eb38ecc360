use Rattle.std.proofs.Common.{List, ap, ◌∙◌, arith, length}
use Rattle.std.proofs.lemmas.List.{length_push}
use Rattle.rvs_index.specs.Index.{in_bucket, places}
use Rattle.rvs_index.specs.declared.slot.Slot.{Slot}
use Rattle.rvs_index.proofs.Sorting.{more_index}
use Rattle.rvs_index.proofs.sorted.add_lists.Goals as goal

pub loop-bucket-preserved : goal.loop-bucket-preserved
loop-bucket-preserved c =
    let e = c.in_ok-push.ensures.added in
    let all : List Slot = c.in_ok-slots.slots in
    let list : List Slot = c.in_ok-of_bucket.field-0 in
    record {
      index =
          more_index c.args.labels.now c.loop-bucket.lists c.push.new.self all list
          c.args.mnemonic c.loop-bucket.bucket c.loop-bucket.invariant.index
          c.loop-bucket.invariant.count c.loop-bucket-test.true c.in_ok-slots.ensures
          (c.in_ok-of_bucket.ensures
          ∙ ap (λ (s : List Slot). in_bucket c.loop-bucket.bucket (places s)) c.as_slice.ensures)
          e;
      count =
          omega (
            arith,
            ap (λ (l : List (List Slot)). length l) e,
            length_push c.loop-bucket.lists list,
            c.loop-bucket.invariant.count,
          );
    }
