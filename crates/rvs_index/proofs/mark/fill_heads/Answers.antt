use Rattle.std.proofs.Common.{◌*◌, ℕ, List, ap, subst, arith, length}
use Rattle.std.proofs.lemmas.List.{length_push}
use Rattle.rvs_index.specs.Buckets.{bucket_count}
use Rattle.rvs_index.specs.Marks.{IsHead}
use Rattle.rvs_index.specs.declared.mark.Audience.TheVariants.{Mnemonic}
use Rattle.rvs_index.specs.declared.mark.Head.{Head}
use Rattle.rvs_index.specs.declared.slot.Slot.{Slot}
use Rattle.rvs_index.proofs.Marks.{more_heads}
use Rattle.rvs_index.proofs.mark.fill_heads.Goals as goal

pub loop-number-preserved : goal.loop-number-preserved
loop-number-preserved c =
    let e = c.in_ok-push.ensures.added in
    let n = c.loop-number.number in
    let head : Head = c.in_ok-head_of.field-0 in
    let slots : List Slot = c.index-lists-number.result in
    let is : IsHead (Mnemonic n) slots head =
    subst (λ s. IsHead (Mnemonic n) s head) c.as_slice-slots.ensures c.in_ok-head_of.ensures in
    record {
      each = more_heads (λ n. Mnemonic n) (λ (n : ℕ). n * bucket_count) c.args.lists.now
          c.loop-number.heads c.push.new.self n slots head c.loop-number.invariant.each
          c.loop-number.invariant.count (omega (arith, c.loop-number-test.true, c.requires.all))
          c.index-lists-number.is is e;
      count =
          omega (
            arith,
            ap (λ (l : List Head). length l) e,
            length_push c.loop-number.heads head,
            c.loop-number.invariant.count,
          );
    }
