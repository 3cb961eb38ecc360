use Rattle.std.proofs.Common.{◌≡◌, take}
use Rattle.rvs_tree.specs.PartsView.{parts_view}
use Rattle.rvs_tree.specs.ValueView.{values_view}
use Rattle.rvs_tree.proofs.Bared.{merging}
use Rattle.rvs_tree.proofs.parts.list_draft.Given as goal

abbrev pub invariant-loop-value : goal.invariant-loop-value
invariant-loop-value l =
    parts_view l.parts.items ≡ merging (values_view (take l.value-index l.values))
