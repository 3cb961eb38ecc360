use Rattle.std.proofs.Common.{◌≡◌, ◌++◌, take}
use Rattle.rvs_test_text.specs.TestText.{text_of}
use Rattle.rvs_test.proofs.printing.push_statements.Given as goal

abbrev pub invariant-loop-statement : goal.invariant-loop-statement
invariant-loop-statement l = l.out ≡ l.fn.out ++ text_of (take l.statement-index l.statements)
