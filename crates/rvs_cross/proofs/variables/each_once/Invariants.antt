use Rattle.std.proofs.Common.{◌≡◌, drop}
use Rattle.rvs_cross.specs.Variables.{same_set}
use Rattle.rvs_cross.specs.Once.{each_once}
use Rattle.rvs_cross.proofs.Once.{with_rest}
use Rattle.rvs_cross.proofs.variables.each_once.Given as goal

abbrev pub invariant-loop-set : goal.invariant-loop-set
invariant-loop-set l =
    with_rest same_set l.sets.items (drop l.set-index l.all) ≡ each_once same_set l.all
