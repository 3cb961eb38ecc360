use Rattle.std.proofs.Common.{◌∷◌, ◌++◌, [], take, ap, sym, arith, ◌∙◌}
use Rattle.std.proofs.lemmas.List.{map_more}
use Rattle.rvs_insn.specs.Fields.{Fields}
use Rattle.rvs_test_text.specs.declared.statement.Statement.TheVariants.{Plain}
use Rattle.rvs_test_text.specs.TestText.{plains}
use Rattle.rvs_test.proofs.Grows.{list_grows}
use Rattle.rvs_test.proofs.case_lines.add_places.Goals as goal

pub loop-place-preserved : goal.loop-place-preserved
loop-place-preserved c =
    let i = c.loop-place.place-index in
    let s = c.place-item.result in
    list_grows _ _ _ _ _ _ c.loop-place.invariant c.in_ok-push.ensures.items
    (map_more (λ (x : Fields). Plain x) c.args.places.now i s (omega arith)
    ∙ ap (λ (x : Fields). plains (take i c.args.places.now) ++ Plain x ∷ []) (sym c.place-item.is))
