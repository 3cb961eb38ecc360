use Rattle.std.proofs.Common.{◌++◌, ◌∷◌, [], ap, ◌∙◌}
use Rattle.rvs_index.specs.Index.{in_bucket, place_of, places}
use Rattle.rvs_index.specs.declared.slot.Slot.{Slot}
use Rattle.rvs_index.proofs.Sorting.{slot_more}
use Rattle.rvs_index.proofs.sorted.of_bucket.Goals as goal

pub loop-slot-preserved : goal.loop-slot-preserved
loop-slot-preserved c =
    let l = c.loop-slot in
    let b = c.args.bucket in
    record {
      same =
          slot_more b c.args.slots.now l.list c.add_slot.new.list l.slot-index c.slot-item.result
          c.loop-slot-test.true
          (c.in_ok-add_slot.ensures
          ∙ ap (λ (s : Slot). places l.list ++ in_bucket b (place_of s ∷ [])) c.slot-item.is)
          ∙ l.invariant.same;
    }
