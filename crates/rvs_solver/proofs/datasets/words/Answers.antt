use Rattle.std.proofs.Common.{◌<◌, ◌∙◌, ◌++◌, ◌∷◌, [], length, get_or, ap, sym, arith, rules}
use Rattle.std.proofs.Common.{FitsSigned}
use Rattle.std.specs.Prelude.{pos}
use Rattle.std.specs.Int.{w64}
use Rattle.std.proofs.lemmas.Int.{to_z-of_z}
use Rattle.std.proofs.lemmas.List.{map_more}
use Rattle.rvs_insn.specs.Word.{low_bits}
use Rattle.rvs_solver.proofs.datasets.words.Goals as goal

pub loop-value-preserved : goal.loop-value-preserved
loop-value-preserved c =
    let xs = c.deref-value-items.result.now in
    let i = c.loop-value.value-index in
    let below : i < length xs = omega (arith, c.loop-value-test.true) in
    let fits : FitsSigned w64 (get_or xs i (pos 0)) = search rules in
    c.in_ok-push.ensures.items
    ∙ ap (λ w. c.loop-value.words.items ++ w ∷ []) (rw (to_z-of_z _ _ fits) at c.word_of.ensures)
    ∙ ap (λ l. l ++ low_bits 32 (get_or xs i (pos 0)) ∷ []) c.loop-value.invariant
    ∙ sym (map_more (low_bits 32) xs i (pos 0) below)
