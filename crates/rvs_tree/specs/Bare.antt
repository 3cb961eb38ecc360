-- An entry with no more than its merges need: the key of one that isn't merged, and its tree.
use Rattle.std.specs.Prelude.{if◌then◌else◌, List, map}
use Rattle.rvs_tree.specs.Value.{Written}
use Rattle.rvs_tree.specs.DraftView.{own_entry, merging_entry}

abbrev pub bare : Written → Written
bare w = if w.merges then merging_entry w.value.tree else own_entry w.key w.value.tree

abbrev pub bares : List Written → List Written
bares ws = map bare ws
