use Rattle.std.proofs.Common.{◌∙◌, List, [], ◌∷◌, length, ap, arith, get_or, subst, sym}
use Rattle.std.proofs.lemmas.List.{length-append}
use Rattle.rvs_index.specs.Cells.{HasCells, IsCellFor}
use Rattle.rvs_index.specs.declared.cell.Cell.{Cell}
use Rattle.rvs_index.proofs.EachCell.{HasCells-more}
use Rattle.rvs_index.proofs.Marks.{any_default}
use Rattle.rvs_index.proofs.cell.fill_cells.Goals as goal

pub loop-number-preserved : goal.loop-number-preserved
loop-number-preserved c =
    let l = c.loop-number in
    let pushed = c.in_ok-push.ensures.added in
    record {
      each = subst (λ (cells : List Cell). HasCells c.args.lists.now cells) (sym pushed)
          (HasCells-more c.args.lists.now l.cells c.cell_of.result l.number l.invariant.count
          l.invariant.each (λ d. subst (λ o. IsCellFor o
          (get_or c.args.lists.now l.number d) c.cell_of.result) c.asked_at.ensures (subst
          (λ s. IsCellFor c.asked_at.result s c.cell_of.result)
          (c.as_slice-slots.ensures ∙ c.index-lists-number.is ∙ any_default c.args.lists.now
          l.number c.index-lists-number.result d (omega (arith, c.loop-number-test.true)))
          c.cell_of.ensures)));
      count = ap (λ (cells : List Cell). length cells) pushed
          ∙ omega (arith, length-append l.cells (c.cell_of.result ∷ []), l.invariant.count);
    }
