use Rattle.std.proofs.Common.{◌≡◌, ◌<◌, ◌+◌, ◌*◌, ◌/◌, ◌%◌, pos, ℕ, List, ap, subst, ◌∙◌, arith}
use Rattle.std.proofs.Common.{get_or, length, w64}
use Rattle.std.proofs.lemmas.Int.{to_z_pos}
use Rattle.std.proofs.lemmas.List.{length_push}
use Rattle.rvs_expr_text.specs.declared.lexeme.NumName.TheVariants.{EaAlign}
use Rattle.rvs_index.specs.Buckets.{bucket_count, number_bucket}
use Rattle.rvs_index.specs.Marks.{place_key, IsHead}
use Rattle.rvs_index.specs.declared.mark.Audience.TheVariants.{Aligned}
use Rattle.rvs_index.specs.declared.mark.Head.{Head}
use Rattle.rvs_index.specs.declared.slot.Slot.{Slot}
use Rattle.rvs_index.proofs.Marks.{more_heads}
use Rattle.rvs_index.proofs.mark.fill_places.Goals as goal

pub loop-number-preserved : goal.loop-number-preserved
loop-number-preserved c =
    let e = c.in_ok-push.ensures.added in
    let n = c.loop-number.number in
    let head : Head = c.in_ok-place_head.field-0 in
    let slots : List Slot = c.index-lists-number.result in
    let is : IsHead (Aligned (pos (n % 4))) slots head =
    subst (λ s. IsHead (Aligned (pos (n % 4))) s head) c.as_slice-slots.ensures
    c.in_ok-place_head.ensures in
    let b : c.number_bucket-bucket.result ≡ number_bucket EaAlign (pos (n % 4)) =
    c.number_bucket-bucket.ensures.value
    ∙ ap (λ z. number_bucket EaAlign z) (to_z_pos w64 (n % 4) (omega arith)) in
    let low : place_key n < length c.args.lists.now =
    omega (
      arith,
      b,
      c.number_bucket-bucket.ensures.low,
      c.loop-number-test.true,
      c.requires.all,
    ) in
    let at : slots ≡ get_or c.args.lists.now (place_key n) slots =
    c.index-lists-number.is
    ∙ ap (λ (b : ℕ). get_or c.args.lists.now (n / 4 * bucket_count + b) slots) b in
    record {
      each = more_heads (λ (n : ℕ). Aligned (pos (n % 4))) place_key c.args.lists.now
          c.loop-number.heads c.push.new.self n slots head c.loop-number.invariant.each
          c.loop-number.invariant.count low at is e;
      count =
          omega (
            arith,
            ap (λ (l : List Head). length l) e,
            length_push c.loop-number.heads head,
            c.loop-number.invariant.count,
          );
    }
