use Rattle.std.proofs.Common.{List, ap, arith, length}
use Rattle.std.proofs.lemmas.List.{length_push}
use Rattle.rvs_index.specs.declared.wanted.Wanted.{Wanted}
use Rattle.rvs_index.proofs.Wants.{more_wanted}
use Rattle.rvs_index.proofs.wanted.fill_wanted.Goals as goal

pub loop-mnemonic-preserved : goal.loop-mnemonic-preserved
loop-mnemonic-preserved c =
    let l = c.loop-mnemonic in
    let e = c.in_ok-push.ensures.added in
    record {
      each = more_wanted c.args.lists.now l.wanted c.push.new.self l.mnemonic c.wanted_of.result
          l.invariant.each l.invariant.count c.wanted_of.ensures e;
      count =
          omega (
            arith,
            ap (λ (l : List Wanted). length l) e,
            length_push l.wanted c.wanted_of.result,
            l.invariant.count,
          );
    }
