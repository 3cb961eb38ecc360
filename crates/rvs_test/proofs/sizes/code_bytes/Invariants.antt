use Rattle.std.proofs.Common.{◌≡◌, ◌≤◌, ◌+◌, ◌*◌, take}
use Rattle.rvs_test_text.specs.TestText.{bytes_all, cases, last_register}
use Rattle.rvs_test.proofs.sizes.code_bytes.Given as goal

abbrev pub invariant-loop-solved : goal.invariant-loop-solved
invariant-loop-solved l = record {
  bytes : l.bytes
      ≡ 4 * last_register l.spec + 20 + bytes_all (cases 0 (take l.solved-index l.cases));
  low : l.bytes ≤ 144 + l.solved-index * 2100;
}
