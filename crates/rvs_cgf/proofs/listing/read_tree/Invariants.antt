use Rattle.std.proofs.Common.{◌≡◌, drop}
use Rattle.rvs_tree.specs.Data.{own_pairs}
use Rattle.rvs_tree.specs.TreeView.{view}
use Rattle.rvs_cgf.specs.Groups.{nothing_listed, label_step, for_each}
use Rattle.rvs_cgf.specs.GroupView.{listed_view}
use Rattle.rvs_cgf.proofs.listing.read_tree.Given as goal

abbrev pub invariant-loop-i : goal.invariant-loop-i
invariant-loop-i l = for_each (label_step l.isa l.families) (drop l.i (own_pairs (view l.tree)))
    (listed_view l.listed)
    ≡ for_each (label_step l.isa l.families) (own_pairs (view l.tree)) nothing_listed
