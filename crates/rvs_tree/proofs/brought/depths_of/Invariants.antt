use Rattle.std.proofs.Common.{◌≡◌, ◌++◌, map, drop, string_bytes}
use Rattle.std.specs.List.{zip}
use Rattle.rvs_tree.specs.Shown as spec
use Rattle.rvs_tree.specs.ShownView.{depths_view}
use Rattle.rvs_tree.specs.TreeView.{rc_view}
use Rattle.rvs_tree.proofs.brought.depths_of.Given as goal

abbrev pub invariant-loop-i : goal.invariant-loop-i
invariant-loop-i l =
    depths_view l.depths.items
    ++ spec.key_depths (zip (map string_bytes (drop l.i l.keys)) (map rc_view (drop l.i l.values)))
    ≡ spec.key_depths (zip (map string_bytes l.keys) (map rc_view l.values))
