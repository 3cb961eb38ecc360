use Rattle.std.proofs.Common.{◌≡◌, ◌<◌, ◌+◌, ◌++◌, ◌∙◌, length, drop, get_or, ap, sym}
use Rattle.std.proofs.Common.{arith, rules, append-nil, FitsSigned}
use Rattle.std.specs.Prelude.{pos}
use Rattle.std.specs.Int.{w128}
use Rattle.std.proofs.lemmas.Int.{to_z-of_z}
use Rattle.rvs_expr.specs.Constants.{kept}
use Rattle.rvs_expr.proofs.Kept.{kept_more, kept_all}
use Rattle.rvs_expr.proofs.constants.kept.Goals as goal

pub loop-value-preserved : goal.loop-value-preserved
loop-value-preserved c =
    let xs = c.args.numerals.now in
    let out = c.loop-value.out.items in
    let i = c.loop-value.value-index in
    let below : i < length xs = omega (arith, c.loop-value-test.true) in
    let fits : FitsSigned w128 (get_or xs i (pos 0)) = search rules in
    ap (λ ys. ys ++ kept (drop (i + 1) xs)) (rw (to_z-of_z _ _ fits) at c.in_ok-add_kept.ensures)
    ∙ kept_more out xs i below
    ∙ c.loop-value.invariant

pub returns : goal.returns
returns c =
    let xs = c.args.numerals.now in
    let out = c.loop-value.out.items in
    let i = c.loop-value.value-index in
    let same : length xs ≡ i = omega (arith, c.loop-value.auto.value-index-end) in
    sym (append-nil out) ∙ sym (kept_all out xs) ∙ ap (λ j. out ++ kept (drop j xs)) same
    ∙ c.loop-value.invariant
