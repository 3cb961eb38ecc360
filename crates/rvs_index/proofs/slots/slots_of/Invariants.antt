use Rattle.std.proofs.Common.{◌≡◌, ◌+◌, ◌++◌, length, drop}
use Rattle.rvs_index.specs.Counting.{aims_in}
use Rattle.rvs_index.specs.Index.{is_for, places, places_for}
use Rattle.rvs_index.proofs.slots.slots_of.Given as goal

abbrev pub invariant-loop-label : goal.invariant-loop-label
invariant-loop-label l = record {
  room : l.first + length (aims_in (drop l.label-index l.labels)) ≡ length (aims_in l.labels);
  same : places l.slots ++ places_for (is_for l.key) l.first (aims_in (drop l.label-index l.labels))
      ≡ places_for (is_for l.key) 0 (aims_in l.labels);
}
