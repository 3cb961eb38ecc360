use Rattle.rvs_uses.proofs.Generates.{makes-tests}
use Rattle.rvs_uses.proofs.laws.each_point_that_a_choice_hits_has_a_test.Goals as goal

pub returns : goal.returns
returns c = makes-tests
