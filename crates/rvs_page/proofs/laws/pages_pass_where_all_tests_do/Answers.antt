use Rattle.rvs_page.proofs.Verdicts.{pass_says_that_all_pass}
use Rattle.rvs_page.proofs.laws.pages_pass_where_all_tests_do.Goals as goal

pub returns : goal.returns
returns c = pass_says_that_all_pass
