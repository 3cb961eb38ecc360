use Rattle.std.proofs.Common.{[], ◌∷◌, ◌∙◌, ◌++◌, ◌≡◌, Bool, true, false, cond, ap, codes, length}
use Rattle.std.proofs.Common.{refl, sym}
use Rattle.rvs_page.proofs.Telling.{behind, says}
use Rattle.rvs_page.specs.Pieces.{piece_text, told}
use Rattle.rvs_page.specs.Points.{hits_head, label_points, points_head, selected_points}
use Rattle.rvs_page.specs.declared.pieces.Piece.TheVariants.{Html, Number}
use Rattle.rvs_page.proofs.points.push_label.Goals as goal

head-of : (b : Bool) → cond b (codes "<th class=\"n\">hits</th>") [] ≡ hits_head b
head-of true = refl
head-of false = refl

pub returns : goal.returns
unfolding label_points points_head told piece_text
returns c =
    says c.push_html.result c.args.page.now.items c.push_html.new.page.items
    (behind c.push_html.result c.args.page.now.items c.push_pieces.new.page.items
    c.push_html.new.page.items _ _
    (c.in_ok-push_pieces.ensures ∙ ap (λ ps. c.args.page.now.items ++ told ps)
    (λ i. c.html.ensures i ∷ c.text.ensures i ∷ c.html-2.ensures i
    ∷ c.text-2.ensures i ∷ c.html-3.ensures i ∷ Number (c.tested.ensures i)
    ∷ c.html-4.ensures i ∷ Number (c.unsolved.ensures i) ∷ c.html-5.ensures i
    ∷ Number (length (c.as_slice.ensures i)) ∷ c.html-6.ensures i
    ∷ (c.either.ensures ∙ ap Html (head-of c.args.counted)) i ∷ c.html-7.ensures i ∷ []))
    (behind c.push_html.result c.push_pieces.new.page.items c.push_each_point.new.page.items
    c.push_html.new.page.items _ _ (rw c.as_slice-2.ensures at c.in_ok-push_each_point.ensures)
    (behind c.push_html.result c.push_each_point.new.page.items
    c.push_each_skipped.new.page.items c.push_html.new.page.items _ _
    (rw c.as_slice-3.ensures at c.in_ok-push_each_skipped.ensures) c.push_html.ensures)))
    (sym (ap (λ b. cond b (selected_points c.args.counted c.args.label.now) [])
    c.if-not-label.false))
