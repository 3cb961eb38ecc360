use Rattle.std.proofs.Common.{◌≡◌, ◌++◌}
use Rattle.rvs_test_text.specs.TestText.{load_words}
use Rattle.rvs_test.proofs.case_lines.add_words.Given as goal

abbrev pub invariant-loop-n : goal.invariant-loop-n
invariant-loop-n l = l.list.items ≡ l.fn.list.items ++ load_words 8 l.n
