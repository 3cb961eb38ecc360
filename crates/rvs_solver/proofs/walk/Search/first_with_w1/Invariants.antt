use Rattle.std.proofs.Common.{◌≡◌, ◌≤◌, ◌+◌, map, drop}
use Rattle.std.specs.Prelude.{find}
use Rattle.rvs_solver.specs.Walk.{search_view, is_true_at, with_numbers}
use Rattle.rvs_solver.proofs.walk.Search.first_with_w1.Given as goal

abbrev pub invariant-loop-w2 : goal.invariant-loop-w2
invariant-loop-w2 g l = record {
  first : find (is_true_at (search_view l.self).formula)
      (map (with_numbers l.self.base l.operand l.w1) l.self.w2s.items)
      ≡ find (is_true_at (search_view l.self).formula)
      (map (with_numbers l.self.base l.operand l.w1) (drop l.w2-index l.w2-items));
  cost : l.steps ≤ l.fn.steps + l.w2-index;
}
