use Rattle.std.proofs.Common.{◌≡◌, ◌++◌, drop}
use Rattle.rvs_page.specs.Escape.{escaped}
use Rattle.rvs_page.proofs.escape.push_escaped.Given as goal

abbrev pub invariant-loop-byte : goal.invariant-loop-byte
invariant-loop-byte l =
    l.page.items ++ escaped (drop l.byte-index l.text) ≡ l.initial.page.items ++ escaped l.text
