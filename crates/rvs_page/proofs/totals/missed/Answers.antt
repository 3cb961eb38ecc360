use Rattle.std.proofs.Common.{arith, ap, length}
use Rattle.rvs_page.specs.Shown.{hit, missed}
use Rattle.rvs_page.proofs.Counts.{hit_or_not}
use Rattle.rvs_page.proofs.totals.missed.Goals as goal

pub overflow_sub-result : goal.overflow_sub-result
unfolding hit
overflow_sub-result c =
    omega (arith, c.hit.ensures, ap length c.as_slice.ensures, hit_or_not c.args.label.now.points)

pub returns : goal.returns
unfolding hit missed
returns c =
    omega (arith, c.hit.ensures, ap length c.as_slice.ensures, hit_or_not c.args.label.now.points)
