use Rattle.std.proofs.Common.{ap, arith}
use Rattle.rvs_yaml.specs.Reach.{levels, reach}
use Rattle.rvs_yaml.specs.StackView.{stack_view}
use Rattle.rvs_yaml.proofs.Reaching.{sight-reach}
use Rattle.rvs_yaml.proofs.Sketching.{stack-top}
use Rattle.rvs_yaml.proofs.reach.may_be_deep.Goals as goal

pub returns-then-levels-own_depth-le-MOST_DEPTH-clause-far :
    goal.returns-then-levels-own_depth-le-MOST_DEPTH-clause-far
returns-then-levels-own_depth-le-MOST_DEPTH-clause-far c = λ e.
    let bs = c.args.blocks.now in
    let same = stack-top bs c.in-Some.top.now c.in-Some.ensures.value in
    omega (
      arith,
      sight-reach (stack_view bs),
      ap reach same,
      ap levels same,
      c.levels.ensures,
      c.own_depth.ensures.bound,
      c.if-levels-own_depth-le-MOST_DEPTH.true,
    )
