use Rattle.std.proofs.Common.{◌≡◌, min, take}
use Rattle.rvs_yaml.specs.Reach.{levels}
use Rattle.rvs_yaml.specs.StackView.{stack_view}
use Rattle.rvs_yaml.proofs.reach.levels.Given as goal

abbrev pub invariant-loop-outer : goal.invariant-loop-outer
invariant-loop-outer l = l.levels ≡ min (levels (stack_view (take l.outer-index l.blocks))) 33
