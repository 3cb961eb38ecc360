use Rattle.std.proofs.Common.{arith, sym}
use Rattle.rvs_index.specs.Counting.{aims_in}
use Rattle.rvs_index.proofs.Lengths.{too_short}
use Rattle.rvs_index.proofs.crosses.Crosses.add_last.Goals as goal

pub returns-else-count-run : goal.returns-else-count-run
returns-else-count-run c =
    sym (too_short c.args.count c.args.run.now (aims_in c.args.self.now) c.args.counts.now
    (omega (arith, c.if-count-run.false)))
