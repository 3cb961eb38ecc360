use Rattle.std.proofs.Common.{refl}
use Rattle.rvs_words.proofs.laws.numbers_are_read.Goals as goal
use Rattle.rvs_words.proofs.CommandNumbers.{steps_are_read, counts_are_read}
use Rattle.rvs_words.proofs.WindowTexts.{windows_are_read, ranges_are_read}
use Rattle.rvs_words.proofs.WindowTexts.{ranges_are_read_each}
use Rattle.rvs_words.proofs.PartTexts.{parts_are_read}

pub returns-clause-steps : goal.returns-clause-steps
returns-clause-steps c = steps_are_read

pub returns-clause-count : goal.returns-clause-count
returns-clause-count c = counts_are_read

pub returns-clause-windows : goal.returns-clause-windows
returns-clause-windows c = windows_are_read

pub returns-clause-range : goal.returns-clause-range
returns-clause-range c = ranges_are_read

pub returns-clause-part : goal.returns-clause-part
returns-clause-part c = parts_are_read

pub returns-clause-ranges : goal.returns-clause-ranges
returns-clause-ranges c = ranges_are_read_each

pub returns-clause-families : goal.returns-clause-families
returns-clause-families c = (refl, refl)
