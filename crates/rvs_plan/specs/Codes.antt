-- The exit status of the process.
use Rattle.std.specs.Prelude.{ℕ}
use Rattle.rvs_plan.specs.declared.status.Status.{Status}
use Rattle.rvs_plan.specs.declared.status.Status.TheVariants.{Done, NotPassed, Usage, Refused}
use Rattle.rvs_plan.specs.declared.status.Status.TheVariants.{HostFault, SinkFault, NoMemory}

-- 0 where all is well, and a number of its own for each way in which it isn't
abbrev pub code_of : Status → ℕ
code_of Done = 0
code_of NotPassed = 1
code_of Usage = 2
code_of Refused = 3
code_of HostFault = 4
code_of SinkFault = 5
code_of NoMemory = 6
