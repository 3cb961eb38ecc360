-- Which keys are known to be merged.
use Rattle.std.specs.Prelude.{ℕ, Bool, false, List, Option, Some, None}
use Rattle.std.specs.BTreeSet.{contains_text}
use Rattle.std.specs.Global.{Box}
use Rattle.rvs_tree.specs.declared.merged_keys.MergedKeys.{MergedKeys}

abbrev pub merged_has : Option (Box MergedKeys) → List ℕ → Bool
merged_has None k = false
merged_has (Some b) k = contains_text b.value.set k
