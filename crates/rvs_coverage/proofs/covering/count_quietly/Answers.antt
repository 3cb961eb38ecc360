use Rattle.rvs_coverage.proofs.covering.count_quietly.Goals as goal

pub returns-clause-met : goal.returns-clause-met
returns-clause-met g c = λ out. rw c.as_planned.ensures (c.count_all.ensures.met out)
