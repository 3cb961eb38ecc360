use Rattle.rvs_yaml.proofs.Telling.{fronts-have-trees}
use Rattle.rvs_yaml.proofs.reader.fronts_have_trees.Goals as goal

pub returns : goal.returns
returns c = fronts-have-trees
