use Rattle.std.proofs.Common.{arith}
use Rattle.rvs_sig.proofs.Worths.{filled_more}
use Rattle.rvs_sig.proofs.digits.worths.Goals as goal

pub loop-byte-preserved : goal.loop-byte-preserved
loop-byte-preserved c =
    filled_more c.loop-byte.worths c.loop-byte.byte c.worth.result c.loop-byte.invariant
    c.loop-byte-test.true c.worth.ensures

pub returns : goal.returns
returns c = λ byte within.
    c.loop-byte.invariant.each byte (omega (arith, within, c.loop-byte-test.false))
