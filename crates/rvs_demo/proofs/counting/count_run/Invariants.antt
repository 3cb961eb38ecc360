use Rattle.rvs_demo.proofs.Running.{Running}
use Rattle.rvs_demo.proofs.counting.count_run.Given as goal

abbrev pub invariant-loop : goal.invariant-loop
invariant-loop l = Running l.limit l.counter l.fn.machine l.machine l.fn.counter l.counter-2
