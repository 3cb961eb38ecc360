use Rattle.std.proofs.Common.{arith, ap, length}
use Rattle.rvs_page.specs.Shown.{tested, unsolved}
use Rattle.rvs_page.proofs.Counts.{tested_or_not}
use Rattle.rvs_page.proofs.totals.unsolved.Goals as goal

pub overflow_sub-result : goal.overflow_sub-result
unfolding tested
overflow_sub-result c =
    omega (
      arith,
      c.tested.ensures,
      ap length c.as_slice.ensures,
      tested_or_not c.args.label.now.points,
    )

pub returns : goal.returns
unfolding tested unsolved
returns c =
    omega (
      arith,
      c.tested.ensures,
      ap length c.as_slice.ensures,
      tested_or_not c.args.label.now.points,
    )
