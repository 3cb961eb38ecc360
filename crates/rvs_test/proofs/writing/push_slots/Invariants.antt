use Rattle.std.proofs.Common.{◌≡◌, ◌++◌}
use Rattle.rvs_test_text.specs.TestText.{text_of, slots}
use Rattle.rvs_test.proofs.writing.push_slots.Given as goal

abbrev pub invariant-loop-k : goal.invariant-loop-k
invariant-loop-k l = l.out ≡ l.fn.out ++ text_of (slots 0 l.k)
