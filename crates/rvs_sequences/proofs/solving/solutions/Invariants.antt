use Rattle.std.proofs.Common.{◌≡◌, ◌≤◌, ◌+◌, map, drop, take}
use Rattle.std.specs.List.{sum_by}
use Rattle.rvs_cross.specs.CrossView.{place_view}
use Rattle.rvs_sequences.specs.Sequences.{solutions}
use Rattle.rvs_sequences.proofs.Solutions.{behind, one_count}
use Rattle.rvs_sequences.proofs.solving.solutions.Given as goal

abbrev pub invariant-loop-place : goal.invariant-loop-place
invariant-loop-place g l = record {
  first : solutions l.spec l.values (map place_view l.places)
      ≡ behind l.insns (solutions l.spec l.values (map place_view (drop l.place-index l.places)));
  cost : l.steps ≤ l.fn.steps + sum_by (one_count l.spec) (take l.place-index l.places);
}
