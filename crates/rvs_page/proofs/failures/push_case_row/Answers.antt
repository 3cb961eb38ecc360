use Rattle.std.proofs.Common.{[], ◌∷◌, ◌∙◌, ap}
use Rattle.rvs_page.proofs.Telling.{tells}
use Rattle.rvs_page.specs.Failures.{case_row}
use Rattle.rvs_page.specs.declared.pieces.Piece.TheVariants.{Text, Number, Word}
use Rattle.rvs_page.proofs.failures.push_case_row.Goals as goal

pub returns : goal.returns
unfolding case_row
returns c =
    let case = c.args.case.now in
    tells c.push_pieces.result c.args.page.now.items c.push_pieces.new.page.items
    c.push_pieces.ensures (λ i. c.html.ensures i ∷ Number case.number ∷ c.html-2.ensures i
    ∷ c.text.ensures i ∷ c.html-3.ensures i ∷ c.text-2.ensures i ∷ c.html-4.ensures i
    ∷ (c.read_as.ensures ∙ ap Text c.as_slice.ensures) i ∷ c.html-5.ensures i
    ∷ c.either.ensures i ∷ c.html-6.ensures i ∷ Word case.core.0 ∷ c.html-7.ensures i
    ∷ c.either-2.ensures i ∷ c.html-8.ensures i ∷ Word case.core.1 ∷ c.html-9.ensures i
    ∷ Word case.reference.0 ∷ c.html-10.ensures i ∷ Word case.reference.1
    ∷ c.html-11.ensures i ∷ [])
