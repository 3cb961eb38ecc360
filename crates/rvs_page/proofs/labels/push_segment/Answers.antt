use Rattle.std.proofs.Common.{[], ◌∷◌, ◌∙◌, ◌≡◌, ap, rules}
use Rattle.rvs_page.proofs.Telling.{says}
use Rattle.rvs_page.specs.Labels.{part, segment}
use Rattle.rvs_page.specs.Pieces.{told}
use Rattle.rvs_page.specs.declared.pieces.Piece.TheVariants.{Number}
use Rattle.rvs_page.proofs.labels.push_segment.Goals as goal

pub returns : goal.returns
unfolding segment part
returns c =
    let some : part c.args.class.now c.args.number ≡ segment c.args.class.now c.args.number
    = search rules in
    says c.push_pieces.result c.args.page.now.items c.push_pieces.new.page.items
    c.push_pieces.ensures
    (ap told (λ i. c.html.ensures i ∷ c.html-2.ensures i ∷ c.html-3.ensures i
    ∷ Number c.args.number ∷ c.html-4.ensures i ∷ []) ∙ some)
