use Rattle.std.proofs.Common.{◌≡◌, true, false, sym, arith}
use Rattle.rvs_machine.specs.Machine.{step_of}
use Rattle.rvs_demo.specs.Counted.{goes_on}
use Rattle.rvs_demo.proofs.Running.{Running-start, Running-more, Running-stops}
use Rattle.rvs_demo.proofs.counting.count_run.Goals as goal

pub loop-init : goal.loop-init
loop-init c =
    Running-start c.args.limit c.args.machine.now c.args.counter.now c.requires.begun

pub count_step-requires-clause-begun : goal.count_step-requires-clause-begun
count_step-requires-clause-begun c = c.loop.invariant.begun

pub count_step-requires-clause-few : goal.count_step-requires-clause-few
count_step-requires-clause-few c = omega (arith, c.loop.invariant.low, c.requires.few)

pub returns-then-not-count_step : goal.returns-then-not-count_step
returns-then-not-count_step c =
    let stops : goes_on (step_of c.loop.machine.setup c.loop.machine.state).0 ≡ false =
    sym c.if-not-count_step.ensures.goes in
    Running-stops c.args.limit c.loop.counter2 c.args.machine.now c.loop.machine c.args.counter.now
    c.loop.counter c.count_step.new.counter c.loop-test.true c.loop.invariant stops
    c.count_step.ensures.counted

pub loop-preserved : goal.loop-preserved
loop-preserved c =
    let goes : goes_on (step_of c.loop.machine.setup c.loop.machine.state).0 ≡ true =
    sym c.if-not-count_step.ensures.goes in
    Running-more c.args.limit c.loop.counter2 c.args.machine.now c.loop.machine
    c.count_step.new.machine c.args.counter.now c.loop.counter c.count_step.new.counter
    c.loop-test.true c.loop.invariant goes c.count_step.ensures.machine
    c.count_step.ensures.counted c.count_step.ensures.low c.count_step.ensures.begun
