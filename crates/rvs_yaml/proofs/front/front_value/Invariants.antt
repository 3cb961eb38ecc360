use Rattle.std.proofs.Common.{◌≡◌, ◌≤◌, length, take}
use Rattle.rvs_yaml.specs.Front.{ends, front_value}
use Rattle.rvs_yaml.specs.StackView.{stack_view}
use Rattle.rvs_tree.specs.ValueView.{value_view}
use Rattle.rvs_yaml.proofs.front.front_value.Given as goal

abbrev pub invariant-loop-i : goal.invariant-loop-i
invariant-loop-i l = record {
  inside : l.i ≤ length l.blocks;
  same : ends (value_view l.value) (stack_view (take l.i l.blocks))
      ≡ front_value (stack_view l.blocks);
}

abbrev pub decreases-loop-i : goal.decreases-loop-i
decreases-loop-i l = l.i
