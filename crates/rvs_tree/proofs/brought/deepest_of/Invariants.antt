use Rattle.std.proofs.Common.{◌≡◌, ◌≤◌, max, drop, []}
use Rattle.rvs_tree.specs.Shown as spec
use Rattle.rvs_tree.specs.ShownView.{depths_view}
use Rattle.rvs_tree.proofs.brought.deepest_of.Given as goal

abbrev pub invariant-loop-pair : goal.invariant-loop-pair
invariant-loop-pair l =
    (max l.deepest (spec.visible (depths_view (drop l.pair-index l.depths)) [])
    ≡ spec.visible (depths_view l.depths) []) × (l.deepest ≤ 33)
