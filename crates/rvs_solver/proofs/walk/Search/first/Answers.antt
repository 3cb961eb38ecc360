use Rattle.std.proofs.Common.{◌∙◌, sym, arith}
use Rattle.std.specs.Prelude.{find, flat_map}
use Rattle.rvs_solver.specs.Walk.{search_view, is_true_at, at_operand, own_addresses, cost_at}
use Rattle.rvs_cross.proofs.Searching.{turn_found, turn_none}
use Rattle.rvs_solver.proofs.Turns.{kept_turn, found_before, within_counted, counted_turn}
use Rattle.rvs_solver.proofs.walk.Search.first.Goals as goal

pub returns-in-Some-clause-first : goal.returns-in-Some-clause-first
returns-in-Some-clause-first g c =
    let s = search_view c.args.self.now in
    let whole = find (is_true_at s.formula) (flat_map (at_operand s) c.args.operands.now) in
    found_before c.in-Some.choice whole
    (find (is_true_at s.formula) (own_addresses s.same c.args.operands.now))
    (turn_found (is_true_at s.formula) (at_operand s) c.args.operands.now
    c.loop-operand.operand-index _ c.in-Some.choice whole (omega arith)
    c.loop-operand.invariant.first (sym c.in-Some.is ∙ c.turn-found.ensures.found))

pub returns-in-Some-clause-cost : goal.returns-in-Some-clause-cost
returns-in-Some-clause-cost g c =
    within_counted (cost_at (search_view c.args.self.now)) c.args.operands.now
    c.loop-operand.operand-index _ c.turn-found.new.steps c.loop-operand.steps c.args.steps.now
    (omega arith) c.loop-operand.invariant.cost c.turn-found.ensures.cost

pub loop-operand-preserved : goal.loop-operand-preserved
loop-operand-preserved g c =
    let s = search_view c.args.self.now in
    record {
      first = turn_none (is_true_at s.formula) (at_operand s) c.args.operands.now
          c.loop-operand.operand-index _
          (find (is_true_at s.formula) (flat_map (at_operand s) c.args.operands.now))
          (omega arith) c.loop-operand.invariant.first
          (sym c.in-None.is ∙ c.turn-found.ensures.found);
      kept = kept_turn (is_true_at s.formula) s.same c.args.operands.now
          c.loop-operand.operand-index _ c.loop-operand.kept c.turn-found.result.1 (omega arith)
          c.loop-operand.invariant.kept (c.turn-found.ensures.kept c.in-None.is);
      cost = counted_turn (cost_at s) c.args.operands.now c.loop-operand.operand-index _
          c.turn-found.new.steps c.loop-operand.steps c.args.steps.now (omega arith)
          c.loop-operand.invariant.cost c.turn-found.ensures.cost;
    }
