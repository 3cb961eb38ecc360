use Rattle.std.proofs.Common.{◌≡◌, ◌++◌}
use Rattle.rvs_tree.specs.TreeView.{view}
use Rattle.rvs_isa.specs.Unread.{unread_of_root}
use Rattle.rvs_isa.proofs.Unreads.{first_entries}
use Rattle.rvs_isa.proofs.unread.unread.Given as goal

abbrev pub invariant-loop-i : goal.invariant-loop-i
invariant-loop-i l =
    l.paths ≡ l.initial.paths ++ first_entries (unread_of_root l.hart) l.i (view l.root)
