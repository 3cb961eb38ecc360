use Rattle.std.proofs.Common.{arith}
use Rattle.std.proofs.lemmas.Grind.{common_steps}
use Rattle.rvs_machine.proofs.machine.Machine.apply.Goals as goal

pub invariant_of-self-in-StoreData : goal.invariant_of-self-in-StoreData
invariant_of-self-in-StoreData c = grind (arith, common_steps)

pub returns-after-addr-self-clause-state : goal.returns-after-addr-self-clause-state
returns-after-addr-self-clause-state c = grind (arith, common_steps)
