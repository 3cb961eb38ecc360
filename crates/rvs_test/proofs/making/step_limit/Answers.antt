use Rattle.std.proofs.Common.{◌≡◌, ◌+◌, take, ap, arith}
use Rattle.rvs_test_text.specs.TestText.{all_steps, case_steps}
use Rattle.rvs_test.proofs.Loops.{steps_more}
use Rattle.rvs_test.proofs.making.step_limit.Goals as goal

pub loop-solved-preserved : goal.loop-solved-preserved
loop-solved-preserved c =
    let i = c.loop-solved.solved-index in
    let s = c.solved-item.result in
    let more : all_steps (take (i + 1) c.args.cases.now) ≡ all_steps (take i c.args.cases.now) + _ =
    steps_more c.args.cases.now i s (omega arith) in
    let one = ap case_steps c.solved-item.is in
    record {
      steps =
          omega (arith, c.loop-solved.invariant.steps, more, one, c.case_steps-steps.ensures.value);
      low = omega (arith, c.loop-solved.invariant.low, c.case_steps-steps.ensures.low);
    }
