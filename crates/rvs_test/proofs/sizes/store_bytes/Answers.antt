use Rattle.rvs_test.proofs.CaseSizes.{store_is}
use Rattle.rvs_test.proofs.sizes.store_bytes.Goals as goal

pub returns : goal.returns
returns c = store_is c.sources.result c.args.choice.now c.sources.ensures.value
