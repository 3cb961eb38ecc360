use Rattle.std.proofs.Common.{◌≡◌, ◌++◌}
use Rattle.rvs_test_text.specs.TestText.{text_of, clear}
use Rattle.rvs_test.proofs.writing.push_clear.Given as goal

abbrev pub invariant-loop-n : goal.invariant-loop-n
invariant-loop-n l = l.out ≡ l.fn.out ++ text_of (clear 1 l.n)
