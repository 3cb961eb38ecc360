use Rattle.std.proofs.Common.{◌≡◌, ◌++◌}
use Rattle.rvs_tree.specs.TreeView.{view}
use Rattle.rvs_isa.proofs.Unreads.{first_entries, unread_of_inner}
use Rattle.rvs_isa.proofs.unread.add_inner.Given as goal

abbrev pub invariant-loop-i : goal.invariant-loop-i
invariant-loop-i l = l.paths ≡ l.initial.paths
    ++ first_entries (λ key _. unread_of_inner l.hart l.name l.read key) l.i (view l.entries)
