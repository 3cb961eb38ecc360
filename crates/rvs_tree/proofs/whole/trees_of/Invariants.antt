use Rattle.std.proofs.Common.{◌≡◌, ◌++◌, true, map, drop}
use Rattle.rvs_tree.specs.Data.{items_of}
use Rattle.rvs_tree.specs.Value.{are_maps_or_empty}
use Rattle.rvs_tree.specs.DraftView.{merged_trees}
use Rattle.rvs_tree.specs.PartsView.{parts_view}
use Rattle.rvs_tree.specs.TreeView.{rc_view}
use Rattle.rvs_tree.proofs.whole.trees_of.Given as goal

abbrev pub invariant-loop-part : goal.invariant-loop-part
invariant-loop-part l = record {
  ready : are_maps_or_empty (items_of (merged_trees (parts_view (drop l.part-index l.parts))))
      ≡ true;
  same : map rc_view l.items.items ++ merged_trees (parts_view (drop l.part-index l.parts))
      ≡ merged_trees (parts_view l.parts);
}
