use Rattle.std.proofs.Common.{◌≡◌, ◌-◌, min, take}
use Rattle.rvs_tree.specs.Bound.{members_depth}
use Rattle.rvs_tree.specs.Data.{members_of}
use Rattle.rvs_tree.specs.TreeView.{view}
use Rattle.rvs_tree.proofs.members.+depth_up_to.Given as goal

abbrev pub decreases-depth_up_to : goal.decreases-depth_up_to
decreases-depth_up_to l = l.most

abbrev pub invariant-loop-i : goal.invariant-loop-i
invariant-loop-i l =
    l.deepest ≡ min (members_depth (take l.i (members_of (view l.tree)))) (l.most - 1)
