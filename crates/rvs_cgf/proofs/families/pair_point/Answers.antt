use Rattle.std.proofs.Common.{◌≡◌, [], sym, ap, ◌∙◌, w64, to_z, of_z}
use Rattle.std.proofs.lemmas.Int.{to_z-of_z}
use Rattle.rvs_expr_text.specs.declared.words.Language.TheVariants.{Numbers}
use Rattle.rvs_expr.specs.Parse.{parse}
use Rattle.rvs_expr.specs.TypedView as typed
use Rattle.rvs_cgf.proofs.PairKeys.{pair-is}
use Rattle.rvs_cgf.proofs.families.pair_point.Goals as goal

pub returns-in-Ok : goal.returns-in-Ok
returns-in-Ok c =
    let value = c.args.value in
    let beside = c.args.beside in
    let same : to_z w64 (of_z w64 value) ≡ value = to_z-of_z _ _ c.ranges.value in
    let too : to_z w64 (of_z w64 beside) ≡ beside = to_z-of_z _ _ c.ranges.beside in
    pair-is c.from-key.result (typed.view c.in-Ok.expr) c.args.var value c.args.other beside
    c.requires.first c.requires.second
    (c.from-key.ensures ∙ (rw (same, too, c.written-name.ensures, c.written-second.ensures)
    at c.in_ok-format.ensures.ok))
    (ap (λ t. parse Numbers [] t) (sym c.as_str.ensures) ∙ c.in-Ok.ensures.parsed)
