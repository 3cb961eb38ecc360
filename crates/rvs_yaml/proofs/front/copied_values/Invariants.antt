use Rattle.std.proofs.Common.{◌≡◌, take}
use Rattle.rvs_tree.specs.ValueView.{values_view}
use Rattle.rvs_yaml.proofs.front.copied_values.Given as goal

abbrev pub invariant-loop-value : goal.invariant-loop-value
invariant-loop-value l = values_view l.list.values.items ≡ values_view (take l.value-index l.values)
