use Rattle.std.proofs.Common.{[], ◌∷◌, ◌∙◌, ◌++◌, ap, sym}
use Rattle.rvs_page.proofs.Telling.{behind, says}
use Rattle.rvs_page.specs.Pieces.{told}
use Rattle.rvs_page.specs.Said.{said_whole, said_whole_by, words_said}
use Rattle.rvs_page.specs.declared.pieces.Piece.TheVariants.{Number, Word}
use Rattle.rvs_page.proofs.said.push_said_whole.Goals as goal

pub returns-in_ok-push_pieces-in-Differs : goal.returns-in_ok-push_pieces-in-Differs
unfolding said_whole words_said
returns-in_ok-push_pieces-in-Differs c =
    let d = c.in-Differs in
    says c.push_cases_said.result c.args.page.now.items c.push_cases_said.new.page.items
    (behind c.push_cases_said.result c.args.page.now.items c.push_pieces.new.page.items
    c.push_cases_said.new.page.items _ _
    (c.in_ok-push_pieces-in-Differs.ensures ∙ ap (λ ps. c.args.page.now.items ++ told ps)
    (λ i. c.html.ensures i ∷ Number d.at ∷ c.html-in-Differs.ensures i ∷ Word d.left
    ∷ c.html-in-Differs-2.ensures i ∷ Word d.right ∷ c.html-in-Differs-3.ensures i
    ∷ Number d.differing ∷ c.html-in-Differs-4.ensures i ∷ Number d.words
    ∷ c.html-in-Differs-5.ensures i ∷ []))
    c.push_cases_said.ensures)
    (sym (ap (λ s. said_whole_by s c.args.label.now) d.is))
