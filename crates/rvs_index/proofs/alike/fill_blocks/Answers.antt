use Rattle.std.proofs.Common.{◌<◌, ℕ, List, ap, arith, length, subst, sym}
use Rattle.std.proofs.lemmas.List.{length_push}
use Rattle.rvs_insn.specs.Table.{op_count}
use Rattle.rvs_index.specs.Buckets.{bucket_count}
use Rattle.rvs_index.specs.Shared.{AreAlike}
use Rattle.rvs_index.proofs.Blocks.{alike_self, more_blocks}
use Rattle.rvs_index.proofs.alike.fill_blocks.Goals as goal
use Rattle.rvs_index.proofs.alike.fill_blocks.Goals.{then-not-is_alike, else-not-is_alike}

pub loop-next-preserved : goal.loop-next-preserved
loop-next-preserved c =
    let l = c.loop-next in
    let cells = c.args.cells.now in
    let e = c.in_ok-push.ensures.added in
    let first = c.if-not-is_alike.first in
    let Is : ℕ → Type 0 = λ k. (k < op_count) × AreAlike bucket_count cells k l.next in
    let is : Is first =
    elim c.if-not-is_alike.branch [
      | then-not-is_alike w ↦ subst Is (sym w.first-is)
          (omega (arith, c.loop-next-test.true), alike_self bucket_count cells l.next)
      | else-not-is_alike w ↦ subst Is (sym w.first-is)
          (l.invariant.low, c.is_alike.ensures w.if-not-is_alike.false)
    ] in
    record {
      each = more_blocks cells l.blocks c.push.new.self l.next first l.invariant.each
          l.invariant.count is.0 is.1 e;
      count =
          omega (
            arith,
            ap (λ (l : List ℕ). length l) e,
            length_push l.blocks first,
            l.invariant.count,
          );
      low = is.0;
    }
