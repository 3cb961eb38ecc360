use Rattle.std.proofs.Common.{List, Result, Ok, Err, OnOk, ap, subst, ◌∙◌, length}
use Rattle.rvs_index.specs.Cells.{HasCells}
use Rattle.rvs_index.specs.Entries.{HasEntries}
use Rattle.rvs_index.specs.Marks.{HasFirstHeads, HasPlaceHeads}
use Rattle.rvs_index.specs.Shared.{HasBlocks}
use Rattle.rvs_index.specs.Wanted.{HasWanted}
use Rattle.rvs_index.specs.declared.cell.Cell.{Cell}
use Rattle.rvs_index.specs.declared.slot.Slot.{Slot}
use Rattle.rvs_index.proofs.tables.fill.Goals as goal

-- what is so wherever a result is there
on_ok : {A E P : Type 0} (r : Result A E) → P → OnOk r P
on_ok (Ok x) p = p
on_ok (Err e) p = tt

pub fill_heads-requires : goal.fill_heads-requires
fill_heads-requires c = record {
  all = ap (λ (l : List (List Slot)). length l) c.as_slice-2.ensures
      ∙ c.in_ok-fill_lists.ensures.all;
  none = c.requires.heads;
}

pub fill_blocks-requires : goal.fill_blocks-requires
fill_blocks-requires c = record {
  all = ap (λ (l : List Cell). length l) c.as_slice-3.ensures
      ∙ c.in_ok-fill_cells.ensures.all
      ∙ ap (λ (l : List (List Slot)). length l) c.as_slice.ensures
      ∙ c.in_ok-fill_lists.ensures.all;
  none = c.requires.blocks;
}

pub fill_wanted-requires : goal.fill_wanted-requires
fill_wanted-requires c = record {
  all = ap (λ (l : List (List Slot)). length l) c.as_slice-4.ensures
      ∙ c.in_ok-fill_lists.ensures.all;
  none = c.requires.wanted;
}

pub fill_entries-requires : goal.fill_entries-requires
fill_entries-requires c = record {
  all = ap (λ (l : List Cell). length l) c.as_slice-5.ensures
      ∙ c.in_ok-fill_cells.ensures.all
      ∙ ap (λ (l : List (List Slot)). length l) c.as_slice.ensures
      ∙ c.in_ok-fill_lists.ensures.all;
  none = c.requires.entries;
}

pub fill_places-requires : goal.fill_places-requires
fill_places-requires c = record {
  all = ap (λ (l : List (List Slot)). length l) c.as_slice-6.ensures
      ∙ c.in_ok-fill_lists.ensures.all;
  none = c.requires.places;
}

pub returns : goal.returns
returns c =
    let r = c.fill_places.result in
    record {
      lists = on_ok r (c.in_ok-fill_lists.ensures.index, c.in_ok-fill_lists.ensures.all);
      cells = on_ok r (
        subst (λ (l : List (List Slot)). HasCells l c.fill_cells.new.cells) c.as_slice.ensures
            c.in_ok-fill_cells.ensures.each,
        c.in_ok-fill_cells.ensures.all
            ∙ ap (λ (l : List (List Slot)). length l) c.as_slice.ensures
            ∙ c.in_ok-fill_lists.ensures.all,
      );
      heads = on_ok r (
        subst (λ (l : List (List Slot)). HasFirstHeads l c.fill_heads.new.heads)
            c.as_slice-2.ensures c.in_ok-fill_heads.ensures.each,
        c.in_ok-fill_heads.ensures.all,
      );
      blocks = on_ok r (
        subst (λ (l : List Cell). HasBlocks l c.fill_blocks.new.blocks) c.as_slice-3.ensures
            c.in_ok-fill_blocks.ensures.each,
        c.in_ok-fill_blocks.ensures.all,
      );
      wanted = on_ok r (
        subst (λ (l : List (List Slot)). HasWanted l c.fill_wanted.new.wanted)
            c.as_slice-4.ensures c.in_ok-fill_wanted.ensures.each,
        c.in_ok-fill_wanted.ensures.all,
      );
      entries = on_ok r (
        subst (λ (l : List Cell). HasEntries l c.fill_entries.new.entries) c.as_slice-5.ensures
            c.in_ok-fill_entries.ensures.each,
        c.in_ok-fill_entries.ensures.all,
      );
      places = subst (λ (l : List (List Slot)). OnOk r (HasPlaceHeads l c.fill_places.new.heads))
          c.as_slice-6.ensures c.fill_places.ensures.each;
      all = c.fill_places.ensures.all;
    }
