use Rattle.std.proofs.Common.{List, ap, arith, length}
use Rattle.std.proofs.lemmas.List.{length_push}
use Rattle.rvs_index.specs.declared.mark.Mark.{Mark}
use Rattle.rvs_index.proofs.Filling.{blank, filled_more}
use Rattle.rvs_index.proofs.mark.filled.Goals as goal

pub loop-preserved : goal.loop-preserved
loop-preserved c =
    let e = c.in_ok-push.ensures.added in
    record {
      filled =
          filled_more c.args.marks c.loop.marks c.push.new.self c.loop.invariant.filled
          (omega (arith, c.loop-test.true, c.loop.invariant.count)) e;
      count =
          omega (
            arith,
            ap (λ (l : List Mark). length l) e,
            length_push c.loop.marks blank,
            c.loop.invariant.count,
          );
    }
