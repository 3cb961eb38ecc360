use Rattle.std.proofs.Common.{[], ◌∷◌, ◌∙◌, ap, codes}
use Rattle.rvs_page.proofs.Telling.{says}
use Rattle.rvs_page.proofs.Tiles.{seven_tiles}
use Rattle.rvs_page.specs.Head.{class_if, marked_tile, point_tiles, test_tiles}
use Rattle.rvs_page.specs.Pieces.{told}
use Rattle.rvs_page.specs.declared.pieces.Piece.TheVariants.{Number}
use Rattle.rvs_page.proofs.head.push_numbers.Goals as goal

pub returns : goal.returns
unfolding marked_tile point_tiles test_tiles
returns c =
    let t = c.args.totals.now in
    says c.push_pieces.result c.args.page.now.items c.push_pieces.new.page.items
    c.push_pieces.ensures
    (ap told (λ i. c.html.ensures i ∷ Number t.tests ∷ c.html-2.ensures i ∷ Number t.passed
    ∷ c.html-3.ensures i ∷ c.either.ensures i ∷ c.html-4.ensures i ∷ Number t.failed
    ∷ c.html-5.ensures i ∷ c.either-2.ensures i ∷ c.html-6.ensures i
    ∷ Number t.open_tests ∷ c.html-7.ensures i ∷ Number t.tested ∷ c.html-8.ensures i
    ∷ Number t.unsolved ∷ c.html-9.ensures i ∷ Number t.skipped ∷ c.html-10.ensures i ∷ [])
    ∙ seven_tiles t.tests t.passed t.failed t.open_tests t.tested t.unsolved t.skipped
    (class_if t.failed (codes " class=\"bad\"")) (class_if t.open_tests (codes " class=\"no\"")))
