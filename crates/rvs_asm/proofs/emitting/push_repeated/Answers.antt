use Rattle.rvs_asm.proofs.Repeats.{grown}
use Rattle.rvs_asm.proofs.emitting.push_repeated.Goals as goal

pub loop-done-preserved : goal.loop-done-preserved
loop-done-preserved c = grown c.loop-done.out.items c.extend_from_slice.new.self.items
    c.args.out.now.items c.loop-done._done c.args.bytes.now c.loop-done.invariant
    c.in_ok-extend_from_slice.ensures.items
