use Rattle.rvs_tree.specs.TreeView.{view}
use Rattle.rvs_isa.proofs.Unreads.{adds, first-more_keys, unread_of_inner}
use Rattle.rvs_isa.proofs.unread.add_inner.Goals as goal

pub loop-i-preserved : goal.loop-i-preserved
loop-i-preserved c = adds _ _ _ _ _ _ c.in_ok-add_of_inner.ensures c.loop-i.invariant
    (first-more_keys (unread_of_inner c.args.hart.now c.args.name.now c.args.read.now)
    c.loop-i.i (view c.args.entries.now) _ c.key.ensures)
