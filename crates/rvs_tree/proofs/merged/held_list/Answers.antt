use Rattle.std.proofs.Common.{◌∙◌, ap, refl}
use Rattle.rvs_tree.specs.Data.{sequence, items_of}
use Rattle.rvs_tree.specs.Value.{trees}
use Rattle.rvs_tree.specs.ValueView.{values_view}
use Rattle.rvs_tree.proofs.merged.held_list.Goals as goal

pub returns-then-list-2-clause-view : goal.returns-then-list-2-clause-view
returns-then-list-2-clause-view c =
    c.in_ok-list_draft.ensures
    ∙ ap (λ vs. sequence (items_of (trees (values_view vs))) c.args.line) c.as_slice.ensures.value

pub returns-then-list-2-clause-ready : goal.returns-then-list-2-clause-ready
returns-then-list-2-clause-ready c = c.if-list-2.true

pub returns-clause-view : goal.returns-clause-view
returns-clause-view c =
    c.in_ok-new_list.ensures ∙ ap (λ ds. sequence (items_of ds) c.args.line)
    (c.in_ok-trees.ensures ∙ ap (λ vs. trees (values_view vs)) c.deref.ensures.value)

pub returns-clause-ready : goal.returns-clause-ready
returns-clause-ready c = refl
