use Rattle.std.proofs.Common.{◌≡◌, drop}
use Rattle.rvs_page.proofs.Verdicts.{judged}
use Rattle.rvs_page.specs.Shown.{verdict_of}
use Rattle.rvs_page.proofs.totals.verdict_of.Given as goal

abbrev pub invariant-loop-label : goal.invariant-loop-label
invariant-loop-label l = judged l.verdict (drop l.label-index l.labels) ≡ verdict_of l.labels
