use Rattle.std.proofs.Common.{◌≡◌, ◌+◌, ◌-◌, ◌∷◌, [], take, drop, sym, ap, ◌∙◌, arith}
use Rattle.rvs_base.specs.Lines.{without_return}
use Rattle.rvs_log.specs.Cutting.{held_after, lines_after, waiting}
use Rattle.rvs_log.proofs.Cuts.{step_at, rest_at}
use Rattle.rvs_log.proofs.follow.advance.Goals as goal

pub returns-in-None : goal.returns-in-None
returns-in-None c =
    let t = rest_at (waiting c.lines.too_long c.lines.bytes.items)
    (waiting c.args.too_long.now c.args.bytes.now.items) c.args.piece.now
    c.back_of-rest.result.now c.lines.used c.back_of-rest.ensures c.lines.invariant.waits
    c.lines.invariant.none c.in-None.ensures.first in
    (t.0, t.1 ∙ sym c.wait.ensures)

pub returns-in-Here : goal.returns-in-Here
returns-in-Here c =
    let t = step_at (waiting c.lines.too_long c.lines.bytes.items)
    (waiting c.args.too_long.now c.args.bytes.now.items) c.args.piece.now
    c.back_of-rest.result.now c.front_of.result.now c.lines.used c.in-Some.end
    c.back_of-rest.ensures c.front_of.ensures c.lines.invariant.fits c.lines.invariant.waits
    c.lines.invariant.none
    c.in-Some.ensures.within c.in-Some.ensures.first.0.before c.in-Some.ensures.first.1 in
    let k : c.lines.used + c.in-Some.end + 1 ≡ c.lines.used + (c.in-Some.end + 1) = omega arith in
    let less : c.lines.used + c.in-Some.end + 1 - 1 ≡ c.lines.used + c.in-Some.end = omega arith in
    let n : c.in-Some.end ≡ c.lines.used + c.in-Some.end - c.lines.used = omega arith in
    let fits = t.2 in (
      omega arith,
      omega (arith, fits),
      ap (λ n. lines_after (waiting c.args.too_long.now c.args.bytes.now.items)
          (take n c.args.piece.now)) k ∙ t.1 ∙ c.in-Here.ensures.0
          ∙ ap (λ l. without_return l ∷ []) (c.front_of.ensures
          ∙ ap (λ l. take c.in-Some.end l) c.back_of-rest.ensures
          ∙ ap (λ n. take n (drop c.lines.used c.args.piece.now)) n),
      ap (λ n. held_after (waiting c.args.too_long.now c.args.bytes.now.items)
          (take n c.args.piece.now)) k ∙ t.0,
      c.in-Here.ensures.1,
      ap (λ n. lines_after (waiting c.args.too_long.now c.args.bytes.now.items)
          (take n c.args.piece.now)) less ∙ t.3,
    )

pub returns-in-Waited : goal.returns-in-Waited
returns-in-Waited c =
    let t = step_at (waiting c.lines.too_long c.lines.bytes.items)
    (waiting c.args.too_long.now c.args.bytes.now.items) c.args.piece.now
    c.back_of-rest.result.now c.front_of.result.now c.lines.used c.in-Some.end
    c.back_of-rest.ensures c.front_of.ensures c.lines.invariant.fits c.lines.invariant.waits
    c.lines.invariant.none
    c.in-Some.ensures.within c.in-Some.ensures.first.0.before c.in-Some.ensures.first.1 in
    let k : c.lines.used + c.in-Some.end + 1 ≡ c.lines.used + (c.in-Some.end + 1) = omega arith in
    let less : c.lines.used + c.in-Some.end + 1 - 1 ≡ c.lines.used + c.in-Some.end = omega arith in
    let fits = t.2 in (
      omega (arith, fits),
      ap (λ n. lines_after (waiting c.args.too_long.now c.args.bytes.now.items)
          (take n c.args.piece.now)) k ∙ t.1 ∙ c.in-Waited.ensures.0,
      ap (λ n. held_after (waiting c.args.too_long.now c.args.bytes.now.items)
          (take n c.args.piece.now)) k ∙ t.0,
      c.in-Waited.ensures.1,
      ap (λ n. lines_after (waiting c.args.too_long.now c.args.bytes.now.items)
          (take n c.args.piece.now)) less ∙ t.3,
    )

pub lines-preserved : goal.lines-preserved
lines-preserved c =
    let t = step_at (waiting c.lines.too_long c.lines.bytes.items)
    (waiting c.args.too_long.now c.args.bytes.now.items) c.args.piece.now
    c.back_of-rest.result.now c.front_of.result.now c.lines.used c.in-Some.end
    c.back_of-rest.ensures c.front_of.ensures c.lines.invariant.fits c.lines.invariant.waits
    c.lines.invariant.none
    c.in-Some.ensures.within c.in-Some.ensures.first.0.before c.in-Some.ensures.first.1 in
    record {
      fits = t.2;
      waits = c.in-Over.ensures.1 ∙ sym t.0;
      none = t.1 ∙ c.in-Over.ensures.0;
    }
