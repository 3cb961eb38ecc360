use Rattle.rvs_machine.proofs.Runs.{run_goes, run_ends}
use Rattle.rvs_machine.proofs.machine.Machine.run.Goals as goal

pub returns-in-Some : goal.returns-in-Some
returns-in-Some c =
    run_ends c.args.self.now c.loop.self c.advance.new.self c.args.limit c.loop.counter
    c.args.trace.now c.loop.trace c.advance.new.trace c.in-Some.end c.loop-test.true
    c.loop.invariant c.in-Some.ensures

pub loop-preserved : goal.loop-preserved
loop-preserved c =
    run_goes c.args.self.now c.loop.self c.advance.new.self c.loop.counter c.args.trace.now
    c.loop.trace c.advance.new.trace c.loop.invariant c.in-None.ensures
