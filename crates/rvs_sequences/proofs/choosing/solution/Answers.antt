use Rattle.rvs_cross.specs.CrossView.{place_view}
use Rattle.rvs_sequences.proofs.Choices.{solution_is, solution_costs}
use Rattle.rvs_sequences.proofs.choosing.solution.Goals as goal

pub returns-clause-first : goal.returns-clause-first
returns-clause-first g c =
    solution_is c.args.spec.now c.args.values.now (place_view c.args.place.now)
    c.listed.result.now c.first_of_ops.result c.listed.ensures c.first_of_ops.ensures.first

pub returns-clause-cost : goal.returns-clause-cost
returns-clause-cost g c =
    solution_costs c.args.spec.now (place_view c.args.place.now) c.listed.result.now
    c.first_of_ops.new.steps c.args.steps.now c.listed.ensures c.first_of_ops.ensures.cost
