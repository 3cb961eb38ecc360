use Rattle.std.proofs.Common.{[], ◌∷◌, ◌∙◌, ◌≡◌, Bool, true, false, cond, ap, codes, refl, sym}
use Rattle.rvs_page.proofs.Telling.{says}
use Rattle.rvs_page.specs.Pieces.{told}
use Rattle.rvs_page.specs.Points.{case_cell, differs_class, numbered_cell}
use Rattle.rvs_page.specs.declared.pieces.Piece.TheVariants.{Html, Number}
use Rattle.rvs_page.proofs.points.push_case_cell.Goals as goal

marked : (b : Bool) → cond b (codes " class=\"bad\"") [] ≡ differs_class b
marked true = refl
marked false = refl

pub returns-in-Some : goal.returns-in-Some
unfolding case_cell numbered_cell
returns-in-Some c =
    says c.push_pieces.result c.args.page.now.items c.push_pieces.new.page.items
    c.push_pieces.ensures
    (ap told (λ i. c.html.ensures i ∷ (c.either.ensures ∙ ap Html (marked c.args.differs)) i
    ∷ c.html-in-Some.ensures i ∷ Number c.in-Some.case ∷ [])
    ∙ sym (ap (λ o. case_cell o c.args.differs) c.in-Some.is))
