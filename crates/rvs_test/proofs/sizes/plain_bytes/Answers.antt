use Rattle.rvs_test.proofs.CaseSizes.{plain_is}
use Rattle.rvs_test.proofs.sizes.plain_bytes.Goals as goal

pub returns : goal.returns
returns c = plain_is c.sources.result c.args.choice.now c.sources.ensures.value
