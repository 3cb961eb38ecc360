use Rattle.std.proofs.Common.{List, ap, arith, length}
use Rattle.std.proofs.lemmas.List.{length_push}
use Rattle.rvs_index.specs.Index.{windows_key}
use Rattle.rvs_index.specs.declared.slot.Slot.{Slot}
use Rattle.rvs_index.proofs.Sorting.{more_lists}
use Rattle.rvs_index.proofs.crosses.fill_lists.Goals as goal

pub loop-number-preserved : goal.loop-number-preserved
loop-number-preserved c =
    let e = c.in_ok-push.ensures.added in
    let list : List Slot = c.in_ok-list_of.field-0 in
    record {
      index =
          more_lists windows_key c.args.labels.now c.loop-number.lists c.push.new.self list
          c.loop-number.number c.loop-number.invariant.index c.loop-number.invariant.count
          c.in_ok-list_of.ensures e;
      count =
          omega (
            arith,
            ap (λ (l : List (List Slot)). length l) e,
            length_push c.loop-number.lists list,
            c.loop-number.invariant.count,
          );
    }
