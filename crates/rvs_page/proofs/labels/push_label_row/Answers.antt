use Rattle.std.proofs.Common.{[], ◌∷◌, ◌∙◌, ◌++◌, ◌≡◌, ℕ, Bool, true, false, cond, List, ap, arith}
use Rattle.std.proofs.Common.{codes, sym}
use Rattle.std.proofs.lemmas.Fmt.{decimal_digit}
use Rattle.rvs_page.proofs.Badges.{row_begins}
use Rattle.rvs_page.proofs.Telling.{behind, behind-three, says}
use Rattle.rvs_page.specs.Labels.{label_row, row_name, selected_row, unselected_row}
use Rattle.rvs_page.specs.Pieces.{piece_text, told}
use Rattle.rvs_page.specs.Said.{badge, badge_class, badge_word}
use Rattle.rvs_page.specs.declared.pieces.Piece.TheVariants.{Html, Text}
use Rattle.rvs_page.specs.declared.shown.Label.{Label}
use Rattle.rvs_page.proofs.labels.push_label_row.Goals as goal

-- a row with the text of its span
abbrev spanned : Label → List ℕ → List ℕ
spanned l span =
    told (Html (codes "<tr class=\"off\"><td>") ∷ Text l.name ∷ Html (codes "</td><td colspan=\"")
    ∷ Html span ∷ Html (codes "\">unselected</td></tr>\n") ∷ [])

unselected : (counted : Bool) (l : Label)
    → spanned l (cond counted (codes "6") (codes "4")) ≡ unselected_row counted l
unfolding told piece_text unselected_row
unselected true l = ap (spanned l) (sym (decimal_digit 6 (omega arith)))
unselected false l = ap (spanned l) (sym (decimal_digit 4 (omega arith)))

pub returns-then-not-label : goal.returns-then-not-label
unfolding label_row
returns-then-not-label c =
    let l = c.args.label.now in
    says c.push_pieces.result c.args.page.now.items c.push_pieces.new.page.items
    c.push_pieces.ensures
    (ap told (λ i. c.html.ensures i ∷ c.text.ensures i ∷ c.html-then-not-label.ensures i
    ∷ c.either.ensures i ∷ c.html-then-not-label-2.ensures i ∷ [])
    ∙ unselected c.args.counted l
    ∙ sym (ap (λ b. cond b (selected_row c.args.counted l) (unselected_row c.args.counted l))
    c.if-not-label.true))

pub returns : goal.returns
unfolding badge row_name label_row
returns c =
    let l = c.args.label.now in
    says c.push_html-2.result c.args.page.now.items c.push_html-2.new.page.items
    (behind-three c.push_html-2.result c.args.page.now.items c.push_pieces-2.new.page.items
    c.push_html-2.new.page.items (row_name l) (badge l.state)
    (told (Html (codes "</td><td>") ∷ [])) _
    (c.in_ok-push_pieces.ensures ∙ ap (λ t. c.args.page.now.items ++ t)
    (ap told (λ i. c.html-2.ensures i ∷ c.text-2.ensures i ∷ c.html-3.ensures i
    ∷ c.text-3.ensures i ∷ c.html-4.ensures i
    ∷ (c.html-5.ensures ∙ ap Html c.badge_texts.ensures.class) i ∷ c.html-6.ensures i
    ∷ (c.html-7.ensures ∙ ap Html c.badge_texts.ensures.word) i ∷ c.html-8.ensures i ∷ [])
    ∙ row_begins l.name (badge_class l.state) (badge_word l.state)))
    (behind c.push_html-2.result c.push_pieces-2.new.page.items c.push_said.new.page.items
    c.push_html-2.new.page.items _ _ c.in_ok-push_said.ensures
    (behind c.push_html-2.result c.push_said.new.page.items c.push_html.new.page.items
    c.push_html-2.new.page.items _ _ c.in_ok-push_html.ensures
    (behind c.push_html-2.result c.push_html.new.page.items c.push_points_bar.new.page.items
    c.push_html-2.new.page.items _ _ c.in_ok-push_points_bar.ensures
    (behind c.push_html-2.result c.push_points_bar.new.page.items
    c.push_coverage_cells.new.page.items c.push_html-2.new.page.items _ _
    c.in_ok-push_coverage_cells.ensures c.push_html-2.ensures)))))
    (sym (ap (λ b. cond b (selected_row c.args.counted l) (unselected_row c.args.counted l))
    c.if-not-label.false))
