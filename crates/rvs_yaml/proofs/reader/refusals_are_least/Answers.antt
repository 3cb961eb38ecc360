use Rattle.rvs_yaml.proofs.Least.{answers_are_least}
use Rattle.rvs_yaml.proofs.reader.refusals_are_least.Goals as goal

pub returns : goal.returns
returns c = answers_are_least
