use Rattle.std.proofs.Common.{◌≡◌, ◌<◌, ◌∙◌, sym, ap, refl, length, get_or, true, arith}
use Rattle.std.proofs.lemmas.Str.{IsCharBoundary-start, IsCharBoundary-after_ascii}
use Rattle.rvs_yaml_text.specs.Scalar.{is_name_byte}
use Rattle.rvs_yaml_text.proofs.Scans.{name-more, name-ascii}
use Rattle.rvs_yaml_text.proofs.scan.name_split.Goals as goal

pub loop-i-init : goal.loop-i-init
loop-i-init c = record { same = refl; boundary = IsCharBoundary-start c.args.text.now c.utf8.text }

pub loop-i-preserved : goal.loop-i-preserved
loop-i-preserved c =
    let same = c.as_bytes-byte-items.ensures.value in
    let here : c.loop-i.i < length c.args.text.now =
    omega (arith, c.loop-i-test.true, ap length same) in
    let name : is_name_byte (get_or c.args.text.now c.loop-i.i 0) ≡ true =
    ap (λ s. is_name_byte (get_or s c.loop-i.i 0)) (sym same) ∙ sym c.is_name_byte.ensures
    ∙ c.if-not-is_name_byte.false in
    record {
      same = name-more c.args.text.now c.loop-i.i here name ∙ c.loop-i.invariant.same;
      boundary = IsCharBoundary-after_ascii c.args.text.now c.loop-i.i c.utf8.text here
          (name-ascii (get_or c.args.text.now c.loop-i.i 0) name);
    }
