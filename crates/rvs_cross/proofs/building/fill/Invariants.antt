use Rattle.std.proofs.Common.{◌≡◌, map, drop, length}
use Rattle.rvs_cross.specs.CrossView.{place_view}
use Rattle.rvs_cross.specs.Parse.{places}
use Rattle.rvs_cross.proofs.Rows.{with_front}
use Rattle.rvs_cross.proofs.building.fill.Given as goal

abbrev pub invariant-loop-i : goal.invariant-loop-i
invariant-loop-i l = record {
  long : length l.list ≡ l.i;
  same : with_front (map place_view l.list) (places l.variables
      (map (λ t. t.now) (drop l.i l.mnemonics)) (map (λ t. t.now) (drop l.i l.assignments))
      (map (λ t. t.now) (drop l.i l.conditions))) ≡ places l.variables (map (λ t. t.now)
      l.mnemonics) (map (λ t. t.now) l.assignments) (map (λ t. t.now) l.conditions);
}
