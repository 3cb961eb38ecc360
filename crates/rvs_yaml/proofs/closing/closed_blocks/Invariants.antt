use Rattle.std.proofs.Common.{◌≡◌, vec_len}
use Rattle.rvs_tree.specs.ValueView.{value_view}
use Rattle.rvs_yaml.specs.Front.{ends}
use Rattle.rvs_yaml.specs.StackView.{stack_view}
use Rattle.rvs_yaml.proofs.closing.closed_blocks.Given as goal

abbrev pub invariant-loop-outer : goal.invariant-loop-outer
invariant-loop-outer l =
    ends (value_view l.value) (stack_view l.blocks.items)
    ≡ ends (value_view l.initial.value) (stack_view l.initial.blocks.items)

abbrev pub decreases-loop-outer : goal.decreases-loop-outer
decreases-loop-outer l = vec_len l.blocks
