use Rattle.rvs_plan.proofs.Listing.{fronts, lists}
use Rattle.rvs_plan.proofs.laws.plans_are_lists.Goals as goal

pub returns-clause-fronts : goal.returns-clause-fronts
returns-clause-fronts c = fronts

pub returns-clause-whole : goal.returns-clause-whole
returns-clause-whole c = lists
