use Rattle.std.proofs.Common.{◌≡◌, ◌≤◌, ◌+◌, map, drop}
use Rattle.rvs_cross.specs.Bare.{bare_view}
use Rattle.rvs_cross.specs.Windows.{all_fit}
use Rattle.rvs_cross.proofs.Turns.{some_of}
use Rattle.rvs_cross.proofs.matching.all_bare.Given as goal

abbrev pub invariant-loop-k : goal.invariant-loop-k
invariant-loop-k g l = record {
  fit : all_fit l.values (map bare_view l.places) (some_of l.window)
      ≡ all_fit l.values (map bare_view (drop l.k l.places)) (some_of (drop l.k l.window));
  cost : l.steps ≤ l.fn.steps + l.k;
}
