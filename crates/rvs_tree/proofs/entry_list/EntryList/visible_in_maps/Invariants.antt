use Rattle.std.proofs.Common.{◌≡◌, max, min, map, drop}
use Rattle.rvs_tree.specs.Value.{explicit_keys, pairs_in}
use Rattle.rvs_tree.specs.Bound.{visible_depth}
use Rattle.rvs_tree.specs.TreeView.{rc_view}
use Rattle.rvs_tree.specs.ValueView.{entries_view}
use Rattle.rvs_tree.proofs.entry_list.EntryList.visible_in_maps.Given as goal

abbrev pub invariant-loop-tree : goal.invariant-loop-tree
invariant-loop-tree l =
    max l.deepest (min (visible_depth (explicit_keys (entries_view l.self.entries.items))
    (pairs_in (map rc_view (drop l.tree-index l.trees)))) 33)
    ≡ min (visible_depth (explicit_keys (entries_view l.self.entries.items))
    (pairs_in (map rc_view l.trees))) 33
