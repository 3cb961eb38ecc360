use Rattle.std.proofs.Common.{◌≡◌, ℕ, List, map, drop}
use Rattle.std.specs.Prelude.{◌||◌}
use Rattle.std.specs.BTreeSet.{contains_text}
use Rattle.rvs_tree.specs.Value.{has_key, keys_of, pairs_in}
use Rattle.rvs_tree.specs.TreeView.{rc_view}
use Rattle.rvs_tree.proofs.merge_keys.with_maps_keys.Given as goal

abbrev pub invariant-loop-tree : goal.invariant-loop-tree
invariant-loop-tree l = (k : List ℕ) →
    (contains_text l.set k
    || has_key k (keys_of (pairs_in (map rc_view (drop l.tree-index l.trees)))))
    ≡ (contains_text l.fn.set k || has_key k (keys_of (pairs_in (map rc_view l.trees))))
