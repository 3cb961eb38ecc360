use Rattle.std.proofs.Common.{◌≡◌, take}
use Rattle.rvs_tree.specs.Bare.{bares}
use Rattle.rvs_tree.specs.PartsView.{parts_view}
use Rattle.rvs_tree.specs.ValueView.{entries_view}
use Rattle.rvs_tree.proofs.parts.map_draft.Given as goal

abbrev pub invariant-loop-written : goal.invariant-loop-written
invariant-loop-written l =
    parts_view l.parts.items ≡ bares (entries_view (take l.written-index l.entries))
