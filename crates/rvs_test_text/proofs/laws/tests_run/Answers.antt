use Rattle.rvs_test_text.proofs.laws.tests_run.Goals as goal
use Rattle.rvs_test_text.proofs.Main.{tests_run}

pub returns : goal.returns
returns c = tests_run
