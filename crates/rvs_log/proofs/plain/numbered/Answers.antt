use Rattle.std.proofs.Common.{arith}
use Rattle.rvs_log.proofs.Numbers.{one_named, two_named}
use Rattle.rvs_log.proofs.plain.numbered.Goals as goal

pub returns-then-high-lt10-clause-name : goal.returns-then-high-lt10-clause-name
returns-then-high-lt10-clause-name c =
    one_named c.args.tens c.args.ones (omega (arith, c.ranges.tens))
    (omega (arith, c.if-ones-eq32.true)) (omega (arith, c.if-high-lt10.true))

pub returns-then-high-low-lt32-clause-name : goal.returns-then-high-low-lt32-clause-name
returns-then-high-low-lt32-clause-name c =
    two_named c.args.tens c.args.ones _ _ (omega (arith, c.ranges.tens, c.if-high-lt4.true))
    (omega (arith, c.ranges.ones, c.if-low-lt10.true)) (omega (arith, c.if-high-gt0.true))
    (omega (arith, c.if-low-lt10.true)) (omega (arith, c.if-high-low-lt32.true))
