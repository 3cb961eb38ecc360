use Rattle.std.proofs.Common.{[], ◌∷◌, ◌∙◌, ap, codes, sym}
use Rattle.rvs_page.proofs.Telling.{behind-three, says}
use Rattle.rvs_page.proofs.Tiles.{two_tiles}
use Rattle.rvs_page.specs.Head.{log_tiles, point_tiles, test_tiles, tiles_text}
use Rattle.rvs_page.specs.Pieces.{told}
use Rattle.rvs_page.specs.declared.pieces.Piece.TheVariants.{Html, Number}
use Rattle.rvs_page.proofs.head.push_tiles.Goals as goal

pub returns-in-None : goal.returns-in-None
unfolding tiles_text log_tiles
returns-in-None c =
    let t = c.args.totals.now in
    says c.push_html.result c.args.page.now.items c.push_html.new.page.items
    (behind-three c.push_html.result c.args.page.now.items c.push_numbers.new.page.items
    c.push_html.new.page.items (told (Html (codes "<section class=\"tiles\">\n") ∷ []))
    (test_tiles t) (point_tiles t) _ c.in_ok-push_numbers.ensures c.push_html.ensures)
    (sym (ap (λ o. tiles_text o t) c.in-None.is))

pub returns-in-Some : goal.returns-in-Some
unfolding tiles_text log_tiles
returns-in-Some c =
    let t = c.args.totals.now in
    says c.push_pieces.result c.args.page.now.items c.push_pieces.new.page.items
    (behind-three c.push_pieces.result c.args.page.now.items c.push_numbers.new.page.items
    c.push_pieces.new.page.items (told (Html (codes "<section class=\"tiles\">\n") ∷ []))
    (test_tiles t) (point_tiles t) _ c.in_ok-push_numbers.ensures
    (says c.push_pieces.result c.push_numbers.new.page.items c.push_pieces.new.page.items
    c.push_pieces.ensures
    (ap told (λ i. c.html.ensures i ∷ Number c.in-Some.instructions ∷ c.html-in-Some.ensures i
    ∷ Number t.hit ∷ c.html-in-Some-2.ensures i ∷ [])
    ∙ two_tiles c.in-Some.instructions t.hit)))
    (sym (ap (λ o. tiles_text o t) c.in-Some.is))
