use Rattle.std.proofs.Common.{◌+◌, ◌*◌, arith}
use Rattle.rvs_sig.proofs.Worths.{eight_spelled}
use Rattle.rvs_sig.proofs.digits.digits_line.Goals as goal

pub returns-then-number-lt-NO_DIGIT-clause-line : goal.returns-then-number-lt-NO_DIGIT-clause-line
returns-then-number-lt-NO_DIGIT-clause-line c =
    let number = 65536 * c.four_digits-high.result + c.four_digits-low.result in
    eight_spelled c.args.text.now number c.in-len9-up.len_at_least c.if-end-eq10.true
    (omega (arith, c.four_digits-high.ensures.value, c.four_digits-low.ensures.value))
    c.if-number-lt-NO_DIGIT.true
