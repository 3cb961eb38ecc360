use Rattle.std.proofs.Common.{◌≡◌, ◌++◌, take}
use Rattle.rvs_test_text.specs.TestText.{text_of, cases}
use Rattle.rvs_test.proofs.writing.push_cases.Given as goal

abbrev pub invariant-loop-k : goal.invariant-loop-k
invariant-loop-k l = l.out ≡ l.fn.out ++ text_of (cases 0 (take l.k l.cases))
