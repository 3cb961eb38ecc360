use Rattle.std.proofs.Common.{[]}
use Rattle.rvs_asm.proofs.location.label_fault.Goals as goal

pub returns-in-Some-clause-fault : goal.returns-in-Some-clause-fault
returns-in-Some-clause-fault c = rw c.in-Some.is (c.unmarked.ensures.fault [])
