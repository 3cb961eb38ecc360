use Rattle.std.proofs.Common.{◌≡◌, ◌<◌, ◌∙◌, sym, ap, refl, length, get_or, arith}
use Rattle.std.proofs.lemmas.Str.{IsCharBoundary-start, IsCharBoundary-after_ascii}
use Rattle.rvs_text.proofs.Ends.{spaces-more}
use Rattle.rvs_text.proofs.spaces.without_spaces.Goals as goal

pub loop-i-init : goal.loop-i-init
loop-i-init c = record { same = refl; boundary = IsCharBoundary-start c.args.text.now c.utf8.text }

pub loop-i-preserved : goal.loop-i-preserved
loop-i-preserved c =
    let same = c.as_bytes-byte-items.ensures.value in
    let here : c.loop-i.i < length c.args.text.now =
    omega (arith, c.loop-i-test.true, ap length same) in
    let space : get_or c.args.text.now c.loop-i.i 0 ≡ 32 =
    ap (λ s. get_or s c.loop-i.i 0) (sym same) ∙ c.if-byte-ne32.false in
    record {
      same = spaces-more c.args.text.now c.loop-i.i here space ∙ c.loop-i.invariant.same;
      boundary =
          IsCharBoundary-after_ascii c.args.text.now c.loop-i.i c.utf8.text here (omega arith);
    }
