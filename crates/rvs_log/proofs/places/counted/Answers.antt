use Rattle.std.proofs.Common.{arith}
use Rattle.rvs_log.proofs.Values.{place_digit, place_low, place_none}
use Rattle.rvs_log.proofs.places.counted.Goals as goal

pub returns-clause-none : goal.returns-clause-none
returns-clause-none c =
    place_none c.args.place c.args.byte c.from.result c.requires (omega (arith, c.ranges.byte))
    (omega (arith, c.from.ensures))

pub returns-clause-digit : goal.returns-clause-digit
returns-clause-digit c =
    place_digit c.args.place c.args.byte c.from.result c.requires (omega (arith, c.ranges.byte))
    (omega (arith, c.from.ensures))

pub returns-clause-low : goal.returns-clause-low
returns-clause-low c =
    place_low c.args.place c.args.byte c.from.result c.requires (omega (arith, c.ranges.byte))
    (omega (arith, c.from.ensures))
