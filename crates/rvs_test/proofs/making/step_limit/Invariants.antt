use Rattle.std.proofs.Common.{◌≡◌, ◌≤◌, ◌+◌, ◌*◌, ◌^◌, take}
use Rattle.rvs_test_text.specs.TestText.{all_steps}
use Rattle.rvs_test.proofs.making.step_limit.Given as goal

abbrev pub invariant-loop-solved : goal.invariant-loop-solved
invariant-loop-solved l = record {
  steps : l.steps ≡ 80 + all_steps (take l.solved-index l.cases);
  low : l.steps ≤ 80 + l.solved-index * 2 ^ 32;
}
