use Rattle.std.proofs.Common.{◌<◌, ◌∙◌, ◌++◌, ◌∷◌, [], length, get_or, ap, sym, arith}
use Rattle.std.proofs.Common.{ℕ, Some, None}
use Rattle.std.proofs.lemmas.List.{map_more}
use Rattle.rvs_solver.specs.declared.operand.Operand.{Operand}
use Rattle.rvs_solver.proofs.datasets.word_operands.Goals as goal

pub loop-word-preserved : goal.loop-word-preserved
loop-word-preserved c =
    let xs = c.deref-word-items.result.now in
    let i = c.loop-word.word-index in
    let below : i < length xs = omega (arith, c.loop-word-test.true) in
    let f : ℕ → Operand = λ w. record { imm = None; align = 0; word = Some w } in
    c.in_ok-push.ensures.items
    ∙ ap (λ l. l ++ f (get_or xs i 0) ∷ []) c.loop-word.invariant
    ∙ sym (map_more f xs i 0 below)
