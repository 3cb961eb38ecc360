use Rattle.rvs_index.proofs.Wants.{wanted_is}
use Rattle.rvs_index.proofs.wanted.wanted_of.Goals as goal

pub returns : goal.returns
returns c =
    wanted_is c.args.lists.now c.args.mnemonic c.any_point.result c.any_point-2.result
    c.any_point-3.result c.any_point-4.result c.any_point-5.result c.any_point-6.result
    c.any_point-7.result c.any_point.ensures c.any_point-2.ensures c.any_point-3.ensures
    c.any_point-4.ensures c.any_point-5.ensures c.any_point-6.ensures c.any_point-7.ensures
