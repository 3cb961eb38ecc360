use Rattle.std.proofs.Common.{arith, rules}
use Rattle.std.proofs.lemmas.Int.{ints}
use Rattle.rvs_machine.proofs.effect.high_word.Goals as goal

pub overflow_mul-a : goal.overflow_mul-a
overflow_mul-a c = grind (arith, ints)

pub overflow_cast-result : goal.overflow_cast-result
overflow_cast-result c = search rules

pub returns : goal.returns
returns c = search rules
