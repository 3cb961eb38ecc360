-- An explicit key keeps its value, whatever its map merges.
use Rattle.std.specs.Prelude.{◌≡◌, ℕ, false, List, ◌∷◌, ◌++◌, Some}
use Rattle.rvs_tree.specs.Data.{value_at}
use Rattle.rvs_tree.specs.Value.{Written, has_key, explicit_keys, map_value}

-- An entry that doesn't merge, and whose key no entry before it spells, gives the value at its key.
abbrev pub OwnKeysStay : Type 0
OwnKeysStay =
    (line : ℕ) (front : List Written) (w : Written) (back : List Written) → w.merges ≡ false
    → has_key w.key (explicit_keys front) ≡ false →
    value_at w.key (map_value line (front ++ w ∷ back)).tree ≡ Some w.value.tree
