use Rattle.std.proofs.Common.{◌≡◌, ◌≤◌, ◌+◌, ◌*◌, map, length, drop}
use Rattle.rvs_cross.specs.CrossView.{place_view}
use Rattle.rvs_cross.specs.Windows.{with_second}
use Rattle.rvs_sequences.specs.Sequences.{count_of, first_solutions}
use Rattle.rvs_sequences.proofs.solving.first_over_seconds.Given as goal

abbrev pub invariant-loop-second : goal.invariant-loop-second
invariant-loop-second g l = record {
  first : first_solutions l.spec (map place_view l.places) (with_second l.seconds l.thirds l.first)
      ≡ first_solutions l.spec (map place_view l.places)
      (with_second (drop l.second-index l.seconds) l.thirds l.first);
  cost : l.steps ≤ l.fn.steps + l.second-index * (length
      l.thirds * count_of l.spec (map place_view l.places));
}
