use Rattle.std.proofs.Common.{[], ◌∷◌, ◌∙◌, ◌++◌, List, ap, codes, refl, sym}
use Rattle.rvs_page.proofs.Telling.{behind, says}
use Rattle.rvs_page.proofs.Tiles.{both}
use Rattle.rvs_page.specs.Pieces.{piece_text, told}
use Rattle.rvs_page.specs.Points.{counted_cell, hits_cell, names_cells, point_row}
use Rattle.rvs_page.specs.declared.pieces.Piece.{Piece}
use Rattle.rvs_page.specs.declared.pieces.Piece.TheVariants.{Html, Number}
use Rattle.rvs_page.proofs.points.push_point.Goals as goal

pub returns-then-not-counted : goal.returns-then-not-counted
unfolding point_row names_cells hits_cell
returns-then-not-counted c =
    let p = c.args.point.now in
    behind c.push_html.result c.args.page.now.items c.push_case_cell.new.page.items
    c.push_html.new.page.items _ _ c.in_ok-push_case_cell.ensures
    (behind c.push_html.result c.push_case_cell.new.page.items c.push_pieces.new.page.items
    c.push_html.new.page.items _ _
    (c.in_ok-push_pieces.ensures ∙ ap (λ ps. c.push_case_cell.new.page.items ++ told ps)
    (λ i. c.html.ensures i ∷ c.text.ensures i ∷ c.html-2.ensures i ∷ c.text-2.ensures i
    ∷ c.html-3.ensures i ∷ []))
    (says c.push_html.result c.push_pieces.new.page.items c.push_html.new.page.items
    c.push_html.ensures
    (sym (ap (λ b. hits_cell b p.hits ++ told (Html (codes "</tr>\n") ∷ []))
    c.if-not-counted.true))))

pub returns : goal.returns
unfolding point_row names_cells hits_cell counted_cell piece_text told
returns c =
    let p = c.args.point.now in
    let cell : List Piece =
    Html (codes "<td class=\"n\">") ∷ Number p.hits ∷ Html (codes "</td>") ∷ [] in
    behind c.push_pieces-2.result c.args.page.now.items c.push_case_cell.new.page.items
    c.push_pieces-2.new.page.items _ _ c.in_ok-push_case_cell.ensures
    (behind c.push_pieces-2.result c.push_case_cell.new.page.items c.push_pieces.new.page.items
    c.push_pieces-2.new.page.items _ _
    (c.in_ok-push_pieces.ensures ∙ ap (λ ps. c.push_case_cell.new.page.items ++ told ps)
    (λ i. c.html.ensures i ∷ c.text.ensures i ∷ c.html-2.ensures i ∷ c.text-2.ensures i
    ∷ c.html-3.ensures i ∷ []))
    (says c.push_pieces-2.result c.push_pieces.new.page.items c.push_pieces-2.new.page.items
    c.push_pieces-2.ensures
    (ap told (λ i. c.html-4.ensures i ∷ Number p.hits ∷ c.html-5.ensures i ∷ [])
    ∙ both cell (Html (codes "</tr>\n") ∷ []) refl refl
    ∙ sym (ap (λ b. hits_cell b p.hits ++ told (Html (codes "</tr>\n") ∷ []))
    c.if-not-counted.false))))
