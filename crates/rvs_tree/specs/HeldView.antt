-- What is held as a value.
use Rattle.std.specs.Prelude.{Bool, true, false}
use Rattle.rvs_tree.specs.Data.{Data}
use Rattle.rvs_tree.specs.TreeView.{view}
use Rattle.rvs_tree.specs.DraftView.{draft_view}
use Rattle.rvs_tree.specs.declared.held.Held.{Held}
use Rattle.rvs_tree.specs.declared.held.Held.TheVariants.{Whole, Merging}

abbrev pub held_view : Held → Data
held_view (Whole tree) = view tree.value
held_view (Merging draft) = draft_view draft.value

abbrev pub is_whole : Held → Bool
is_whole (Whole tree) = true
is_whole (Merging draft) = false
