use Rattle.std.proofs.Common.{◌≡◌, ◌++◌, take}
use Rattle.rvs_test_text.specs.TestText.{plains}
use Rattle.rvs_test.proofs.case_lines.add_places.Given as goal

abbrev pub invariant-loop-place : goal.invariant-loop-place
invariant-loop-place l = l.list.items ≡ l.fn.list.items ++ plains (take l.place-index l.places)
