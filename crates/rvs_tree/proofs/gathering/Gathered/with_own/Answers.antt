use Rattle.std.proofs.Common.{refl}
use Rattle.rvs_tree.proofs.Single.{same-pair}
use Rattle.rvs_tree.proofs.gathering.Gathered.with_own.Goals as goal

pub returns : goal.returns
returns c = same-pair _ _ _ _ c.in_ok-pairs.ensures refl
