use Rattle.rvs_machine.specs.declared.event.End.TheVariants.{Halted, Trapped, StepLimit}
use Rattle.rvs_reference.proofs.TestRuns.{run_found-run}
use Rattle.rvs_reference.proofs.test_run.run_to_end.Goals as goal

pub returns-in_ok-words-in-Halted : goal.returns-in_ok-words-in-Halted
returns-in_ok-words-in-Halted c = λ spec image machine empty.
    let run = rw (machine, empty, c.in-Halted.is) at c.run.ensures in
    rw c.in_ok-words-in-Halted.ensures.words (run_found-run c.args.name.now
    c.args.limit spec image c.run.new.self c.run.new.trace Halted (λ e. cc) run)

pub returns-in_ok-trap_text-in-Trapped : goal.returns-in_ok-trap_text-in-Trapped
returns-in_ok-trap_text-in-Trapped c = λ spec image machine empty.
    let run = rw (machine, empty, c.in-Trapped.is) at c.run.ensures in
    rw c.in_ok-trap_text-in-Trapped.ensures (run_found-run c.args.name.now c.args.limit spec image
    c.run.new.self c.run.new.trace (Trapped c.in-Trapped.trap) (λ e. cc) run)

pub returns-in_ok-steps_text-in-StepLimit : goal.returns-in_ok-steps_text-in-StepLimit
returns-in_ok-steps_text-in-StepLimit c = λ spec image machine empty.
    let run = rw (machine, empty, c.in-StepLimit.is) at c.run.ensures in
    rw c.in_ok-steps_text-in-StepLimit.ensures (run_found-run c.args.name.now
    c.args.limit spec image c.run.new.self c.run.new.trace StepLimit (λ e. cc) run)
