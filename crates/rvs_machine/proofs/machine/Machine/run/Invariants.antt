use Rattle.rvs_machine.proofs.Runs.{Done}
use Rattle.rvs_machine.proofs.machine.Machine.run.Given as goal

abbrev pub invariant-loop : goal.invariant-loop
invariant-loop l = Done l.fn.self l.self l.counter l.fn.trace l.trace
