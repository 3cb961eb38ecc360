use Rattle.std.proofs.Common.{rules}
use Rattle.rvs_machine.proofs.effect.quotient.Goals as goal

pub wrapping_div-requires : goal.wrapping_div-requires
wrapping_div-requires c = search rules

pub returns-then-b-eq0 : goal.returns-then-b-eq0
returns-then-b-eq0 c = search rules

pub returns-else-b-eq0 : goal.returns-else-b-eq0
returns-else-b-eq0 c = search rules
