use Rattle.rvs_test.proofs.CaseSizes.{forward_is}
use Rattle.rvs_test.proofs.sizes.forward_bytes.Goals as goal

pub returns-clause-value : goal.returns-clause-value
returns-clause-value c = forward_is c.from.result c.args.words c.from.ensures
