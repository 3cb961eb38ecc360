-- A small value in the place of one: it counts as many nodes, and can be merged or not as the other
-- can.
use Rattle.std.specs.Prelude.{Bool, true, false, if◌then◌else◌, [], ◌∷◌}
use Rattle.rvs_tree.specs.Data.{Data, scalar, sequence, mapping, no_items, no_entries}
use Rattle.rvs_tree.specs.Value.{Value, are_maps_or_empty}

-- A map without entries, a list without items where all are maps or empty scalars, or else a text.
abbrev pub thin : Data → Data
thin (scalar text line) = scalar text line
thin (sequence ds line) = if are_maps_or_empty ds then sequence no_items line
    else scalar (120 ∷ []) line
thin (mapping es line) = mapping no_entries line

abbrev pub standin : Value → Value
standin v = record { tree = thin v.tree; nodes = v.nodes }

-- the value itself, or what stands for it
abbrev pub formed_value : Bool → Value → Value
formed_value false v = v
formed_value true v = standin v
