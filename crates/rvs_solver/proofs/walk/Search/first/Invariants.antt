use Rattle.std.proofs.Common.{◌≡◌, ◌≤◌, ◌+◌, drop, take}
use Rattle.std.specs.Prelude.{find, flat_map, sum_by}
use Rattle.rvs_solver.specs.Walk.{search_view, is_true_at, at_operand, own_addresses, cost_at}
use Rattle.rvs_solver.proofs.walk.Search.first.Given as goal

abbrev pub invariant-loop-operand : goal.invariant-loop-operand
invariant-loop-operand g l = record {
  first : find (is_true_at (search_view l.self).formula)
      (flat_map (at_operand (search_view l.self)) l.operands)
      ≡ find (is_true_at (search_view l.self).formula)
      (flat_map (at_operand (search_view l.self)) (drop l.operand-index l.operands));
  kept : l.kept ≡ find (is_true_at (search_view l.self).formula)
      (own_addresses l.self.same (take l.operand-index l.operands));
  cost : l.steps ≤ l.fn.steps + (l.operand-index + sum_by (cost_at (search_view l.self))
      (take l.operand-index l.operands));
}
