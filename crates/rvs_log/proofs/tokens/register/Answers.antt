use Rattle.std.proofs.Common.{arith}
use Rattle.std.proofs.lemmas.Grind.{common_steps}
use Rattle.rvs_log.proofs.tokens.register.Goals as goal

pub returns-then-number-lt32-clause-value : goal.returns-then-number-lt32-clause-value
returns-then-number-lt32-clause-value c = grind (arith, common_steps)

pub returns-in-48-to-57-2-clause-value : goal.returns-in-48-to-57-2-clause-value
returns-in-48-to-57-2-clause-value c = grind (arith, common_steps)
