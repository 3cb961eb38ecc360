use Rattle.std.proofs.Common.{cond, refl, ap}
use Rattle.rvs_test.proofs.laws.few_registers_are_enough.Goals as goal

pub returns-clause-cleared : goal.returns-clause-cleared
returns-clause-cleared c isa e = ap (λ b. cond b 15 31) e

pub returns-clause-pointer : goal.returns-clause-pointer
returns-clause-pointer c = refl
