use Rattle.std.proofs.Common.{◌≡◌, ◌≤◌, ◌+◌, length, drop, take}
use Rattle.std.specs.Prelude.{find, flat_map}
use Rattle.std.specs.List.{sum_by}
use Rattle.rvs_cross.specs.CrossView.{place_view}
use Rattle.rvs_cross.specs.Windows.{fits}
use Rattle.rvs_sequences.specs.Choosing.{admitted_insns}
use Rattle.rvs_sequences.proofs.choosing.first_of_ops.Given as goal

abbrev pub invariant-loop-op : goal.invariant-loop-op
invariant-loop-op g l = record {
  first : find (fits l.values (place_view l.place)) (flat_map (admitted_insns l.spec) l.ops)
      ≡ find (fits l.values (place_view l.place))
      (flat_map (admitted_insns l.spec) (drop l.op-index l.ops));
  cost : l.steps ≤ l.fn.steps + sum_by (λ op. length (admitted_insns l.spec op))
      (take l.op-index l.ops);
}
