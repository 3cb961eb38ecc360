use Rattle.std.proofs.Common.{◌≡◌, max, min, map, drop, string_bytes}
use Rattle.std.specs.List.{zip}
use Rattle.rvs_tree.specs.Value.{explicit_keys}
use Rattle.rvs_tree.specs.Bound.{visible_depth}
use Rattle.rvs_tree.specs.TreeView.{rc_view}
use Rattle.rvs_tree.specs.ValueView.{entries_view}
use Rattle.rvs_tree.proofs.entry_list.EntryList.visible_in_map.Given as goal

abbrev pub invariant-loop-i : goal.invariant-loop-i
invariant-loop-i l =
    max l.deepest (min (visible_depth (explicit_keys (entries_view l.self.entries.items))
    (zip (map string_bytes (drop l.i l.keys)) (map rc_view (drop l.i l.values)))) 33)
    ≡ min (visible_depth (explicit_keys (entries_view l.self.entries.items))
    (zip (map string_bytes l.keys) (map rc_view l.values))) 33
