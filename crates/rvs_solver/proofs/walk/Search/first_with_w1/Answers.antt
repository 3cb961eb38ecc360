use Rattle.std.proofs.Common.{◌∙◌, sym, arith}
use Rattle.std.specs.Prelude.{find}
use Rattle.rvs_solver.specs.Walk.{search_view, is_true_at, with_numbers, at_w1}
use Rattle.rvs_solver.proofs.Turns.{map_found, map_passed}
use Rattle.rvs_solver.proofs.walk.Search.first_with_w1.Goals as goal

pub returns-then-is_true-clause-first : goal.returns-then-is_true-clause-first
returns-then-is_true-clause-first g c =
    let s = search_view c.args.self.now in
    map_found (is_true_at s.formula) (with_numbers s.base c.args.operand.now c.args.w1)
    c.as_slice-w2-items.result.now c.loop-w2.w2-index 0 c.with_numbers-choice.result
    (find (is_true_at s.formula) (at_w1 s c.args.operand.now c.args.w1)) (omega arith)
    c.loop-w2.invariant.first c.with_numbers-choice.ensures
    (sym c.is_true.ensures.value ∙ c.if-is_true.true)

pub loop-w2-preserved : goal.loop-w2-preserved
loop-w2-preserved g c =
    let s = search_view c.args.self.now in
    record {
      first = map_passed (is_true_at s.formula)
          (with_numbers s.base c.args.operand.now c.args.w1) c.as_slice-w2-items.result.now
          c.loop-w2.w2-index 0 c.with_numbers-choice.result
          (find (is_true_at s.formula) (at_w1 s c.args.operand.now c.args.w1)) (omega arith)
          c.loop-w2.invariant.first c.with_numbers-choice.ensures
          (sym c.is_true.ensures.value ∙ c.if-is_true.false);
      cost = omega (arith, c.is_true.ensures.step, c.loop-w2.invariant.cost);
    }
