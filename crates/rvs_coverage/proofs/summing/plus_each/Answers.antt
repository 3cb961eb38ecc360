use Rattle.std.proofs.Common.{◌∙◌, sym}
use Rattle.rvs_coverage.proofs.Sums.{done_all}
use Rattle.rvs_coverage.proofs.summing.plus_each.Goals as goal

pub returns-clause-numbers : goal.returns-clause-numbers
returns-clause-numbers c =
    c.from.ensures
    ∙ sym (done_all c.loop-at.sums.items c.args.others.now c.loop-at.at c.loop-at-test.false)
    ∙ c.loop-at.invariant
