use Rattle.std.proofs.Common.{[], ◌∷◌, ◌∙◌, ◌++◌, ◌≡◌, Bool, true, false, cond, ap, codes, refl}
use Rattle.rvs_page.proofs.Telling.{behind, more-told, all-told}
use Rattle.rvs_page.specs.Labels.{heads_more, label_row, labels_head, labels_text, legend_more}
use Rattle.rvs_page.specs.Pieces.{piece_text, told}
use Rattle.rvs_page.specs.declared.pieces.Piece.TheVariants.{Html}
use Rattle.rvs_page.proofs.labels.push_labels.Goals as goal

legend : (b : Bool)
    → cond b (codes " <i class=\"h\"></i> hit in the logs <i class=\"m\"></i> not hit") []
    ≡ legend_more b
legend true = refl
legend false = refl

heads : (b : Bool) → cond b (codes "<th>coverage</th><th class=\"n\">hit</th>") [] ≡ heads_more b
heads true = refl
heads false = refl

pub loop-label-preserved : goal.loop-label-preserved
loop-label-preserved c =
    more-told (label_row c.args.counted) c.loop-label.page.items c.args.labels.now _
    c.loop-label-test.true c.label-item.is c.in_ok-push_label_row.ensures c.loop-label.invariant

pub returns : goal.returns
unfolding labels_text labels_head told piece_text
returns c =
    behind c.push_html.result c.args.page.now.items c.push_pieces.new.page.items
    c.push_html.new.page.items _ _
    (c.in_ok-push_pieces.ensures ∙ ap (λ ps. c.args.page.now.items ++ told ps)
    (λ i. c.html.ensures i ∷ (c.either.ensures ∙ ap Html (legend c.args.counted)) i
    ∷ c.html-2.ensures i ∷ (c.either-2.ensures ∙ ap Html (heads c.args.counted)) i
    ∷ c.html-3.ensures i ∷ []))
    (behind c.push_html.result c.push_pieces.new.page.items c.loop-label.page.items
    c.push_html.new.page.items _ _
    (all-told (label_row c.args.counted) c.loop-label.page.items c.args.labels.now
    c.loop-label-test.false c.loop-label.invariant)
    c.push_html.ensures)
