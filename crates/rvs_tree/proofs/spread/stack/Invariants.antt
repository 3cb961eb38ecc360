use Rattle.std.proofs.Common.{◌≡◌, ◌+◌, ◌++◌, length}
use Rattle.rvs_tree.specs.PartsView.{refs_view, next_view, ref_sizes}
use Rattle.rvs_tree.proofs.spread.stack.Given as goal

abbrev pub invariant-loop-part : goal.invariant-loop-part
invariant-loop-part g l =
    (refs_view l.first.items ++ next_view l.work.items ≡ refs_view l.initial.first.items
    ++ next_view l.initial.work.items)
    × (ref_sizes l.work.items + ref_sizes l.first.items
    ≡ ref_sizes l.initial.work.items + ref_sizes l.initial.first.items)

abbrev pub decreases-loop-part : goal.decreases-loop-part
decreases-loop-part g l = length l.first.items
