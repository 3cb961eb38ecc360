-- Blocks whose keys are taken around what merges into them.
use Rattle.std.specs.Prelude.{◌≡◌, ◌≤◌, ◌<◌, ℕ, List, slice_index_or, take}
use Rattle.rvs_tree.specs.Shown.{Holds}
use Rattle.rvs_yaml.specs.Chain.{done_keys, chain_keys}
use Rattle.rvs_yaml.specs.StackView.{done_view, stack_view}
use Rattle.rvs_yaml.specs.declared.open.Open.{Open}

abbrev pub AreAround : List Open → ℕ → ℕ → Type 0
AreAround bs first end = (j : ℕ) (b : Open) → first ≤ j → j < end → b ≡ slice_index_or bs j b
    → Holds (done_keys (done_view b.block.done)) (chain_keys (stack_view (take end bs)))
