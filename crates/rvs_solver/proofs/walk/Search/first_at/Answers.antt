use Rattle.std.proofs.Common.{◌∙◌, sym, ap, append-nil, arith}
use Rattle.std.specs.Prelude.{find, flat_map}
use Rattle.rvs_solver.specs.Walk.{search_view, is_true_at, at_w1, found_at, word_or}
use Rattle.rvs_cross.proofs.Searching.{turn_found, turn_none}
use Rattle.rvs_solver.proofs.walk.Search.first_at.Goals as goal

pub returns-in-Some-clause-first : goal.returns-in-Some-clause-first
returns-in-Some-clause-first g c =
    let s = search_view c.args.self.now in
    c.first_with_w1.ensures.first
    ∙ sym (ap (find (is_true_at s.formula)) (append-nil (at_w1 s c.args.operand.now c.in-Some.word)))
    ∙ ap (λ w. find (is_true_at s.formula) (flat_map (at_w1 s c.args.operand.now) (word_or w s.w1s)))
    (sym c.in-Some.is)

pub returns-in-Some-first_with_w1-clause-first : goal.returns-in-Some-first_with_w1-clause-first
returns-in-Some-first_with_w1-clause-first g c =
    let s = search_view c.args.self.now in
    turn_found (is_true_at s.formula) (at_w1 s c.args.operand.now) c.as_slice-w1-items.result.now
    c.loop-w1.w1-index 0 c.in-Some-first_with_w1.choice (found_at s c.args.operand.now) (omega arith)
    c.loop-w1.invariant.first c.in-Some-first_with_w1.ensures.first

pub loop-w1-preserved : goal.loop-w1-preserved
loop-w1-preserved g c =
    let s = search_view c.args.self.now in
    record {
      first = turn_none (is_true_at s.formula) (at_w1 s c.args.operand.now)
          c.as_slice-w1-items.result.now c.loop-w1.w1-index 0 (found_at s c.args.operand.now)
          (omega arith) c.loop-w1.invariant.first c.in-None-first_with_w1.ensures.first;
      cost = omega (arith, c.in-None-first_with_w1.ensures.cost);
    }
