use Rattle.std.proofs.Common.{arith, rules}
use Rattle.std.proofs.lemmas.Int.{ints}
use Rattle.rvs_machine.proofs.effect.effect_at.Goals as goal

pub overflow_mul-result : goal.overflow_mul-result
overflow_mul-result c = omega arith

pub high_word-requires-clause-first : goal.high_word-requires-clause-first
high_word-requires-clause-first c = grind (arith, ints)

pub high_word-requires-clause-second : goal.high_word-requires-clause-second
high_word-requires-clause-second c = grind (arith, ints)

pub high_word-requires-in-Mulhsu-clause-first : goal.high_word-requires-in-Mulhsu-clause-first
high_word-requires-in-Mulhsu-clause-first c = grind (arith, ints)

pub high_word-requires-in-Mulhsu-clause-second : goal.high_word-requires-in-Mulhsu-clause-second
high_word-requires-in-Mulhsu-clause-second c = grind (arith, ints)

pub overflow_mul-result-in-Mulhu : goal.overflow_mul-result-in-Mulhu
overflow_mul-result-in-Mulhu c = search rules

pub overflow_cast-result : goal.overflow_cast-result
overflow_cast-result c = search rules
