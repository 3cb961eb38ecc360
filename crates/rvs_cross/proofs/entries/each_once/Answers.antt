use Rattle.std.proofs.Common.{arith}
use Rattle.rvs_facts.specs.Mnemonics.{is_same}
use Rattle.rvs_cross.specs.Once.{each_once}
use Rattle.rvs_cross.proofs.Once.{none_kept, turn, all_kept, ops_join}
use Rattle.rvs_cross.proofs.entries.each_once.Goals as goal

pub loop-op-init : goal.loop-op-init
loop-op-init c =
    none_kept is_same c.new-ops.result.items c.args.named.now c.new-ops.ensures.items

pub loop-op-preserved : goal.loop-op-preserved
loop-op-preserved c =
    turn is_same ops_join c.args.named.now c.loop-op.op-index _ c.loop-op.ops.items _
    (each_once is_same c.args.named.now) (omega arith) c.loop-op.invariant c.in_ok-add.ensures

pub returns : goal.returns
returns c =
    all_kept is_same c.args.named.now c.loop-op.op-index c.loop-op.ops.items
    (each_once is_same c.args.named.now) (omega arith) c.loop-op.invariant
