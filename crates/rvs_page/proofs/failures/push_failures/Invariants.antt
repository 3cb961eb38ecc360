use Rattle.std.proofs.Common.{◌≡◌, ◌++◌, drop}
use Rattle.std.specs.List.{flat_map}
use Rattle.rvs_page.specs.Failures.{failure_text}
use Rattle.rvs_page.proofs.failures.push_failures.Given as goal

abbrev pub invariant-loop-label : goal.invariant-loop-label
invariant-loop-label l =
    l.page.items ++ flat_map failure_text (drop l.label-index l.labels)
    ≡ l.initial.page.items ++ flat_map failure_text l.labels
