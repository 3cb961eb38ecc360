-- The entries of a draft as they are gathered.
use Rattle.std.specs.Prelude.{ℕ, ◌&&◌, if◌then◌else◌, List, [], ◌∷◌}
use Rattle.rvs_tree.specs.Data.{is_map}
use Rattle.rvs_tree.specs.Value.{Written, has_key}

-- the keys that are taken, with those of these entries
abbrev pub takes : List (List ℕ) → List Written → List (List ℕ)
takes taken [] = taken
takes taken (w ∷ ws) =
    if w.merges then takes taken ws
    else if has_key w.key taken then takes taken ws
    else takes (w.key ∷ taken) ws

-- the maps among what is merged
abbrev pub map_entries : List Written → List Written
map_entries [] = []
map_entries (w ∷ ws) = if w.merges && is_map w.value.tree then w ∷ map_entries ws
    else map_entries ws
