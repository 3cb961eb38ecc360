use Rattle.std.proofs.Common.{◌≡◌, drop}
use Rattle.rvs_page.specs.Shown.{none, with_labels}
use Rattle.rvs_page.proofs.totals.totals_of.Given as goal

abbrev pub invariant-loop-label : goal.invariant-loop-label
invariant-loop-label l =
    with_labels l.totals (drop l.label-index l.labels) ≡ with_labels none l.labels
