-- Which keys are taken around a value that merges, in all the maps into which it does.
use Rattle.std.specs.Prelude.{Bool, false, if◌then◌else◌, ℕ, List, [], ◌∷◌, ◌++◌}
use Rattle.rvs_tree.specs.Value.{trees, keys_of, pairs_in}
use Rattle.rvs_tree.specs.Shown.{keys_so_far}
use Rattle.rvs_yaml.specs.Stack.{Done, done_items, done_entries, alone, Open}

-- whether what is in the open member of such a block merges into it or into one around it
abbrev pub chained : Done → Bool → Bool
chained (done_items vs) inside = inside
chained (done_entries ws k) inside = k.merges
chained alone inside = inside

abbrev pub in_chain : List Open → Bool
in_chain [] = false
in_chain (b ∷ bs) = chained b.done (in_chain bs)

-- the keys that the members have which a block has so far
abbrev pub done_keys : Done → List (List ℕ)
done_keys (done_items vs) = keys_of (pairs_in (trees vs))
done_keys (done_entries ws k) = keys_so_far ws
done_keys alone = []

-- the keys that all these maps and lists have
abbrev pub chain_keys : List Open → List (List ℕ)
chain_keys [] = []
chain_keys (b ∷ bs) =
    if chained b.done (in_chain bs) then done_keys b.done ++ chain_keys bs else []
