use Rattle.std.proofs.Common.{ℕ, List, ap, arith, length}
use Rattle.std.proofs.lemmas.List.{length_push}
use Rattle.rvs_index.proofs.Registers.{more_entries}
use Rattle.rvs_index.proofs.entries.fill_entries.Goals as goal

pub loop-number-preserved : goal.loop-number-preserved
loop-number-preserved c =
    let l = c.loop-number in
    let e = c.in_ok-push.ensures.added in
    record {
      each = more_entries c.args.cells.now l.entries c.push.new.self l.number c.entry_for.result
          l.invariant.each l.invariant.count c.entry_for.ensures e;
      count =
          omega (
            arith,
            ap (λ (l : List ℕ). length l) e,
            length_push l.entries c.entry_for.result,
            l.invariant.count,
          );
    }
