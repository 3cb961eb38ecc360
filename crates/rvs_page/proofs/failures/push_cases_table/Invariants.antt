use Rattle.std.proofs.Common.{◌≡◌, ◌++◌, drop}
use Rattle.std.specs.List.{flat_map}
use Rattle.rvs_page.specs.Failures.{case_row}
use Rattle.rvs_page.proofs.failures.push_cases_table.Given as goal

abbrev pub invariant-loop-case : goal.invariant-loop-case
invariant-loop-case l =
    l.page.items ++ flat_map case_row (drop l.case-index l.cases)
    ≡ l.initial.page.items ++ flat_map case_row l.cases
