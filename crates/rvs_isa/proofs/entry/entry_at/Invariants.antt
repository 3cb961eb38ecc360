use Rattle.std.proofs.Common.{◌≡◌, map, drop}
use Rattle.rvs_tree.specs.TreeView.{view}
use Rattle.rvs_isa.specs.Entries.{entry_at}
use Rattle.rvs_isa.proofs.entry.entry_at.Given as goal

abbrev pub invariant-loop-key : goal.invariant-loop-key
invariant-loop-key l = entry_at (map (λ k. k.now) (drop l.key-index l.path)) (view l.entry)
    ≡ entry_at (map (λ k. k.now) l.path) (view l.root)
