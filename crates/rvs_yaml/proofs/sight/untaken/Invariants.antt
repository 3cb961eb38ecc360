use Rattle.std.proofs.Common.{◌≤◌, ℕ, List, take}
use Rattle.rvs_tree.specs.Shown as shown
use Rattle.rvs_tree.specs.ShownView.{depths_view}
use Rattle.rvs_yaml.specs.Chain.{chain_keys}
use Rattle.rvs_yaml.specs.StackView.{stack_view}
use Rattle.rvs_yaml.proofs.sight.untaken.Given as goal

abbrev pub invariant-loop-pair : goal.invariant-loop-pair
invariant-loop-pair l = (T : List (List ℕ))
    → shown.Holds (chain_keys (stack_view (take l.end l.blocks))) T
    → shown.visible (depths_view l.yielded) T ≤ shown.visible (depths_view l.kept.items) T
