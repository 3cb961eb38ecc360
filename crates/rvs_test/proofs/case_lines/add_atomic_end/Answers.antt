use Rattle.std.proofs.Common.{◌∷◌, ◌++◌, ◌∙◌, ap}
use Rattle.std.specs.Prelude.{unwrap_or}
use Rattle.rvs_solver.specs.Choices.{ChoiceValue, fields_of}
use Rattle.rvs_test_text.specs.declared.statement.Name.TheVariants.{Case, Scratch}
use Rattle.rvs_test_text.specs.declared.statement.Statement.TheVariants.{Label, Plain}
use Rattle.rvs_test_text.specs.TestText.{get_word, save}
use Rattle.rvs_test.specs.AtomicLines.{atomic_end}
use Rattle.rvs_test.proofs.Grows.{end_grows}
use Rattle.rvs_test.proofs.case_lines.add_atomic_end.Goals as goal

pub returns : goal.returns
unfolding atomic_end
returns c =
    let old = c.args.list.now.items in
    let symbol = Label (Case c.args.k) in
    c.in_ok-extend_from_slice-3.ensures.items
    ∙ ap (λ l. l ++ c.save.result)
    (c.in_ok-extend_from_slice-2.ensures.items
    ∙ ap (λ l. l ++ c.get_word.result) c.in_ok-extend_from_slice.ensures.items)
    ∙ end_grows old symbol (Plain c.insn.result) c.get_word.result c.save.result
    ∙ ap (λ i. old ++ (symbol ∷ Plain i ∷ (c.get_word.result ++ c.save.result))) c.insn.ensures
    ∙ ap (λ g. old ++ (symbol ∷ Plain (fields_of c.args.choice.now) ∷ (g ++ c.save.result)))
    c.get_word.ensures
    ∙ ap (λ s. old ++ (symbol ∷ Plain (fields_of c.args.choice.now)
    ∷ (get_word c.args.p c.args.m Scratch ++ s)))
    (c.save.ensures
    ∙ ap (λ d. save c.args.p c.args.k d c.args.m)
    (c.number.ensures.value
    ∙ ap (λ (v : ChoiceValue). unwrap_or v.rd 0) c.choice.view_is))
