use Rattle.std.proofs.Common.{◌≡◌, ◌≤◌, ◌+◌, ◌*◌, length, drop}
use Rattle.std.specs.Prelude.{find, flat_map}
use Rattle.rvs_solver.specs.Walk.{search_view, is_true_at, at_w1, found_at}
use Rattle.rvs_solver.proofs.walk.Search.first_at.Given as goal

abbrev pub invariant-loop-w1 : goal.invariant-loop-w1
invariant-loop-w1 g l = record {
  first : found_at (search_view l.self) l.operand
      ≡ find (is_true_at (search_view l.self).formula)
      (flat_map (at_w1 (search_view l.self) l.operand) (drop l.w1-index l.w1-items));
  cost : l.steps ≤ l.fn.steps + l.w1-index * length l.self.w2s.items;
}
