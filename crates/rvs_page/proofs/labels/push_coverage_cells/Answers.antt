use Rattle.std.proofs.Common.{[], ◌∷◌, ◌∙◌, ◌++◌, ap, codes, cond, length, sym}
use Rattle.rvs_page.proofs.Telling.{behind, says}
use Rattle.rvs_page.specs.Labels.{bar_ends, coverage_bar, coverage_bar_begins, coverage_cells}
use Rattle.rvs_page.specs.Labels.{segment}
use Rattle.rvs_page.specs.Pieces.{told}
use Rattle.rvs_page.specs.declared.pieces.Piece.TheVariants.{Number}
use Rattle.rvs_page.proofs.labels.push_coverage_cells.Goals as goal

pub returns : goal.returns
unfolding coverage_cells coverage_bar coverage_bar_begins
returns c =
    let l = c.args.label.now in
    says c.end_bar.result c.args.page.now.items c.end_bar.new.page.items
    (behind c.end_bar.result c.args.page.now.items c.push_pieces.new.page.items
    c.end_bar.new.page.items _ _
    (c.in_ok-push_pieces.ensures ∙ ap (λ ps. c.args.page.now.items ++ told ps)
    (λ i. c.html.ensures i ∷ Number (c.hit-hit.ensures i) ∷ c.html-2.ensures i
    ∷ Number (c.missed-missed.ensures i) ∷ c.html-3.ensures i ∷ []))
    (behind c.end_bar.result c.push_pieces.new.page.items c.push_segment.new.page.items
    c.end_bar.new.page.items _ _
    (c.in_ok-push_segment.ensures
    ∙ ap (λ n. c.push_pieces.new.page.items ++ segment (codes "h") n) c.hit-hit.ensures)
    (behind c.end_bar.result c.push_segment.new.page.items c.push_segment-2.new.page.items
    c.end_bar.new.page.items _ _
    (c.in_ok-push_segment-2.ensures
    ∙ ap (λ n. c.push_segment.new.page.items ++ segment (codes "m") n) c.missed-missed.ensures)
    (says c.end_bar.result c.push_segment-2.new.page.items c.end_bar.new.page.items
    c.end_bar.ensures (λ i. bar_ends (c.hit-hit.ensures i) (length (c.as_slice.ensures i)))))))
    (sym (ap (λ b. cond b (coverage_bar l) []) c.if-not-counted.false))
