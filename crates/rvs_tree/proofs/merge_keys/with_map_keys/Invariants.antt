use Rattle.std.proofs.Common.{◌≡◌, ℕ, List, map, drop, string_bytes}
use Rattle.std.specs.Prelude.{◌||◌}
use Rattle.std.specs.List.{zip}
use Rattle.std.specs.BTreeSet.{contains_text}
use Rattle.rvs_tree.specs.Value.{has_key, keys_of}
use Rattle.rvs_tree.specs.TreeView.{rc_view}
use Rattle.rvs_tree.proofs.merge_keys.with_map_keys.Given as goal

abbrev pub invariant-loop-i : goal.invariant-loop-i
invariant-loop-i l = (k : List ℕ) →
    (contains_text l.set k || has_key k (keys_of
    (zip (map string_bytes (drop l.i l.keys)) (map rc_view (drop l.i l.values)))))
    ≡ (contains_text l.fn.set k
    || has_key k (keys_of (zip (map string_bytes l.keys) (map rc_view l.values))))
