use Rattle.std.proofs.Common.{◌∙◌, sym, ap}
use Rattle.rvs_tree.specs.TreeView.{view}
use Rattle.rvs_tree.specs.HeldView.{held_view, is_whole}
use Rattle.rvs_tree.specs.DraftView.{draft_view}
use Rattle.rvs_tree.proofs.held.Held.share.Goals as goal

pub returns-in_ok-clone-in-Whole-clause-view : goal.returns-in_ok-clone-in-Whole-clause-view
returns-in_ok-clone-in-Whole-clause-view c =
    ap view c.in_ok-clone-in-Whole.ensures.cases ∙ sym (ap held_view c.in-Whole.is)

pub returns-in_ok-clone-in-Whole-clause-whole : goal.returns-in_ok-clone-in-Whole-clause-whole
returns-in_ok-clone-in-Whole-clause-whole c = sym (ap is_whole c.in-Whole.is)

pub returns-in_ok-clone-in-Merging-clause-view : goal.returns-in_ok-clone-in-Merging-clause-view
returns-in_ok-clone-in-Merging-clause-view c =
    ap draft_view c.in_ok-clone-in-Merging.ensures.cases ∙ sym (ap held_view c.in-Merging.is)

pub returns-in_ok-clone-in-Merging-clause-whole : goal.returns-in_ok-clone-in-Merging-clause-whole
returns-in_ok-clone-in-Merging-clause-whole c = sym (ap is_whole c.in-Merging.is)
