use Rattle.std.proofs.Common.{sym, ◌∙◌}
use Rattle.rvs_tree.specs.TreeView.{view}
use Rattle.rvs_isa.specs.Unread.{unread_of_hart}
use Rattle.rvs_isa.proofs.Unreads.{adds, first-more}
use Rattle.rvs_isa.proofs.unread.add_hart.Goals as goal

pub loop-i-preserved : goal.loop-i-preserved
loop-i-preserved c = adds _ _ _ _ _ _ c.in_ok-add_of_hart.ensures c.loop-i.invariant
    (first-more (unread_of_hart c.args.hart.now) c.loop-i.i (view c.args.entries.now) _ _
    (sym c.is_map.ensures ∙ c.if-is_map.true) c.key.ensures c.item.ensures)
