use Rattle.std.proofs.Common.{◌<◌, ◌∙◌, ◌++◌, ◌∷◌, [], length, get_or, ap, sym, arith}
use Rattle.std.proofs.Common.{FitsSigned, to_z, of_z}
use Rattle.std.specs.Prelude.{pos}
use Rattle.std.specs.Int.{w32, w64}
use Rattle.std.proofs.lemmas.Int.{to_z-of_z, fits_signed_from_abs}
use Rattle.std.proofs.lemmas.List.{take_more}
use Rattle.std.proofs.lemmas.List.Elements.{All-get_or}
use Rattle.rvs_solver.specs.Truth.{IsShort}
use Rattle.rvs_solver.proofs.datasets.narrow.Goals as goal

pub loop-number-preserved : goal.loop-number-preserved
loop-number-preserved c =
    let xs = c.args.numbers.now in
    let i = c.loop-number.number-index in
    let z = get_or xs i (pos 0) in
    let below : i < length xs = omega (arith, c.loop-number-test.true) in
    let short : IsShort z = All-get_or IsShort xs i (pos 0) below c.requires in
    let wide : FitsSigned w64 z = fits_signed_from_abs w64 z (omega (arith, short)) in
    let fits : FitsSigned w32 z = fits_signed_from_abs w32 z (omega (arith, short)) in
    c.in_ok-push.ensures.items
    ∙ ap (λ y. c.loop-number.list.items ++ y ∷ [])
    (ap (λ y. to_z w32 (of_z w32 y)) (to_z-of_z _ _ wide) ∙ to_z-of_z _ _ fits)
    ∙ ap (λ l. l ++ z ∷ []) c.loop-number.invariant
    ∙ sym (take_more xs i (pos 0) below)
