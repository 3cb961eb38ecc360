use Rattle.rvs_tree.proofs.OwnKeys.{own-keys-stay}
use Rattle.rvs_tree.proofs.merged.own_keys_stay.Goals as goal

pub returns : goal.returns
returns c = own-keys-stay
