use Rattle.std.proofs.Common.{◌≡◌, ◌≤◌, ◌+◌, ◌*◌, map, drop}
use Rattle.rvs_cross.specs.CrossView.{place_view}
use Rattle.rvs_cross.specs.Windows.{with_third}
use Rattle.rvs_sequences.specs.Sequences.{count_of, first_solutions}
use Rattle.rvs_sequences.proofs.solving.first_over_thirds.Given as goal

abbrev pub invariant-loop-third : goal.invariant-loop-third
invariant-loop-third g l = record {
  first : first_solutions l.spec (map place_view l.places) (with_third l.thirds l.first l.second)
      ≡ first_solutions l.spec (map place_view l.places)
      (with_third (drop l.third-index l.thirds) l.first l.second);
  cost : l.steps ≤ l.fn.steps + l.third-index * count_of l.spec (map place_view l.places);
}
