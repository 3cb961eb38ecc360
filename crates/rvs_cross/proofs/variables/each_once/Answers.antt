use Rattle.std.proofs.Common.{arith}
use Rattle.rvs_cross.specs.Variables.{same_set}
use Rattle.rvs_cross.specs.Once.{each_once}
use Rattle.rvs_cross.proofs.Once.{none_kept, turn, all_kept, sets_join}
use Rattle.rvs_cross.proofs.variables.each_once.Goals as goal

pub loop-set-init : goal.loop-set-init
loop-set-init c =
    none_kept same_set c.new-sets.result.items c.args.all.now c.new-sets.ensures.items

pub loop-set-preserved : goal.loop-set-preserved
loop-set-preserved c =
    turn same_set sets_join c.args.all.now c.loop-set.set-index _ c.loop-set.sets.items _
    (each_once same_set c.args.all.now) (omega arith) c.loop-set.invariant c.in_ok-add.ensures

pub returns : goal.returns
returns c =
    all_kept same_set c.args.all.now c.loop-set.set-index c.loop-set.sets.items
    (each_once same_set c.args.all.now) (omega arith) c.loop-set.invariant
