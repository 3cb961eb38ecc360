use Rattle.std.proofs.Common.{◌≡◌, ◌≤◌, ◌+◌, ◌*◌, map, length, drop}
use Rattle.std.specs.Prelude.{flat_map}
use Rattle.rvs_cross.specs.CrossView.{place_view}
use Rattle.rvs_cross.specs.Windows.{with_second}
use Rattle.rvs_sequences.specs.Sequences.{count_of, first_solutions}
use Rattle.rvs_sequences.proofs.solving.first_over_firsts.Given as goal

abbrev pub invariant-loop-first : goal.invariant-loop-first
invariant-loop-first g l = record {
  first : first_solutions l.spec (map place_view l.places)
      (flat_map (with_second l.seconds l.thirds) l.firsts)
      ≡ first_solutions l.spec (map place_view l.places)
      (flat_map (with_second l.seconds l.thirds) (drop l.first-index l.firsts));
  cost : l.steps ≤ l.fn.steps + l.first-index * (length
      l.seconds * (length l.thirds * count_of l.spec (map place_view l.places)));
}
