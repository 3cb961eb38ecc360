use Rattle.std.proofs.Common.{◌≡◌, drop}
use Rattle.rvs_tree.specs.Data.{own_pairs}
use Rattle.rvs_tree.specs.TreeView.{view}
use Rattle.rvs_cgf.specs.Groups.{for_each, under, at_node, abstract_key, abstract_entry}
use Rattle.rvs_cgf.specs.Groups.{abstract_node}
use Rattle.rvs_cgf.specs.GroupView.{taken_view}
use Rattle.rvs_cgf.specs.PlaceView.{place_view}
use Rattle.rvs_cgf.proofs.entries.abstract_node.Given as goal

abbrev pub invariant-loop-i : goal.invariant-loop-i
invariant-loop-i l =
    for_each (under (at_node (place_view l.place).label abstract_key) (abstract_entry l.families))
    (drop l.i (own_pairs (view l.entries))) (taken_view l.taken)
    ≡ abstract_node l.families (place_view l.place) (view l.entries) (taken_view l.fn.taken)
