use Rattle.rvs_test.proofs.CaseSizes.{backward_is}
use Rattle.rvs_test.proofs.sizes.backward_bytes.Goals as goal

pub returns-clause-value : goal.returns-clause-value
returns-clause-value c = backward_is c.from.result c.args.words c.from.ensures
