use Rattle.std.proofs.Common.{[], ◌∷◌, ◌∙◌, ◌++◌, ap, codes, length}
use Rattle.rvs_page.proofs.Telling.{behind, says}
use Rattle.rvs_page.specs.Labels.{bar_ends, points_bar, points_bar_begins, segment}
use Rattle.rvs_page.specs.Pieces.{told}
use Rattle.rvs_page.specs.declared.pieces.Piece.TheVariants.{Number}
use Rattle.rvs_page.proofs.labels.push_points_bar.Goals as goal

pub returns : goal.returns
unfolding points_bar points_bar_begins
returns c =
    behind c.end_bar.result c.args.page.now.items c.push_pieces.new.page.items
    c.end_bar.new.page.items _ _
    (c.in_ok-push_pieces.ensures ∙ ap (λ ps. c.args.page.now.items ++ told ps)
    (λ i. c.html.ensures i ∷ Number (c.tested-tested.ensures i) ∷ c.html-2.ensures i
    ∷ Number (c.unsolved-unsolved.ensures i) ∷ c.html-3.ensures i
    ∷ Number (length (c.as_slice-skipped.ensures i)) ∷ c.html-4.ensures i ∷ []))
    (behind c.end_bar.result c.push_pieces.new.page.items c.push_segment.new.page.items
    c.end_bar.new.page.items _ _
    (c.in_ok-push_segment.ensures
    ∙ ap (λ n. c.push_pieces.new.page.items ++ segment (codes "s") n) c.tested-tested.ensures)
    (behind c.end_bar.result c.push_segment.new.page.items c.push_segment-2.new.page.items
    c.end_bar.new.page.items _ _
    (c.in_ok-push_segment-2.ensures
    ∙ ap (λ n. c.push_segment.new.page.items ++ segment (codes "u") n)
    c.unsolved-unsolved.ensures)
    (behind c.end_bar.result c.push_segment-2.new.page.items c.push_segment-3.new.page.items
    c.end_bar.new.page.items _ _
    (c.in_ok-push_segment-3.ensures
    ∙ ap (λ ps. c.push_segment-2.new.page.items ++ segment (codes "k") (length ps))
    c.as_slice-skipped.ensures)
    (says c.end_bar.result c.push_segment-3.new.page.items c.end_bar.new.page.items
    c.end_bar.ensures
    (λ i. bar_ends (c.tested-tested.ensures i) (length (c.as_slice.ensures i)))))))
