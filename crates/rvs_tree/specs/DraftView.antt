-- What drafts stand for.
use Rattle.std.specs.Prelude.{ℕ, true, false, if◌then◌else◌, List, [], ◌∷◌, string_bytes}
use Rattle.rvs_tree.specs.Data.{Data, sequence, mapping, items_of, entries_of}
use Rattle.rvs_tree.specs.Value.{Written, resolved, explicit_keys}
use Rattle.rvs_tree.specs.TreeView.{rc_view}
use Rattle.rvs_tree.specs.declared.draft.Draft.{Draft, fold-Draft}
use Rattle.rvs_tree.specs.declared.draft.Part.{Part, fold-Part}
use Rattle.rvs_tree.specs.declared.draft.Part.TheOpen.{Part-F, Draft-F}

-- an entry with a key of its own
abbrev pub own_entry : List ℕ → Data → Written
own_entry k d = record { key = k; merges = false; value = record { tree = d; nodes = 0 } }

-- what a key that merges brings
abbrev pub merging_entry : Data → Written
merging_entry d = record { key = []; merges = true; value = record { tree = d; nodes = 0 } }

-- the values that are merged
abbrev pub merged_trees : List Written → List Data
merged_trees [] = []
merged_trees (w ∷ ws) = if w.merges then w.value.tree ∷ merged_trees ws else merged_trees ws

abbrev pub part_step : Part-F Written Data → Written
part_step (Part-F.Pair key tree) = own_entry (string_bytes key) (rc_view tree)
part_step (Part-F.Whole tree) = merging_entry (rc_view tree)
part_step (Part-F.Nested draft) = merging_entry draft.value

abbrev pub data_of : List Written → ℕ → Data
data_of ws line = mapping (entries_of (resolved (explicit_keys ws) [] ws)) line

abbrev pub draft_step : Draft-F Written Data → Data
draft_step d = if d.is_list then sequence (items_of (merged_trees d.parts.items)) d.line
    else data_of d.parts.items d.line

abbrev pub draft_view : Draft → Data
draft_view = fold-Draft Written Data part_step draft_step

abbrev pub part_view : Part → Written
part_view = fold-Part Written Data part_step draft_step
