use Rattle.std.proofs.Common.{List, ap, arith, length}
use Rattle.std.proofs.lemmas.List.{length_push}
use Rattle.rvs_index.specs.declared.mark.Mark.{Mark}
use Rattle.rvs_index.proofs.Marks.{more_marks}
use Rattle.rvs_index.proofs.mark.marks_of.Goals as goal

pub loop-slot-preserved : goal.loop-slot-preserved
loop-slot-preserved c =
    let e = c.in_ok-push-in-Some.ensures.added in
    record {
      has = more_marks c.args.audience c.args.slots.now c.loop-slot.marks c.push.new.self
          c.loop-slot.slot-index c.slot-item.result c.in-Some.mark c.loop-slot.invariant.has
          c.loop-slot.invariant.count c.loop-slot-test.true c.slot-item.is c.in-Some.ensures e;
      count =
          omega (
            arith,
            ap (λ (l : List Mark). length l) e,
            length_push c.loop-slot.marks c.in-Some.mark,
            c.loop-slot.invariant.count,
          );
    }
