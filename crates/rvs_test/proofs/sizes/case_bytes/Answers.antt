use Rattle.rvs_test.proofs.CaseSizes.{window_is}
use Rattle.rvs_test.proofs.sizes.case_bytes.Goals as goal

pub returns-in-Many : goal.returns-in-Many
returns-in-Many c =
    window_is c.args.solved.now c.in-Many.places c.as_slice.result.now c.in-Many.is
    c.as_slice.ensures
