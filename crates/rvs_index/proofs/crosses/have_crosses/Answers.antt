use Rattle.std.proofs.Common.{◌∙◌}
use Rattle.rvs_index.proofs.Crossing.{cross_labels}
use Rattle.rvs_index.proofs.crosses.have_crosses.Goals as goal

pub returns : goal.returns
returns c = c.any_has_cross.ensures ∙ cross_labels c.args.count c.args.labels.now
