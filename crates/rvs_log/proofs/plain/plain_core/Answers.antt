use Rattle.std.proofs.Common.{arith}
use Rattle.std.proofs.lemmas.Grind.{common_steps}
use Rattle.rvs_log.proofs.plain.plain_core.Goals as goal

pub returns-then-n-eq120 : goal.returns-then-n-eq120
returns-then-n-eq120 c = grind (arith, common_steps)
