use Rattle.std.proofs.Common.{◌≡◌, drop}
use Rattle.rvs_tree.specs.Data.{own_pairs}
use Rattle.rvs_tree.specs.TreeView.{view}
use Rattle.rvs_cgf.specs.Groups.{for_each, under, skipped_entry, passed_over}
use Rattle.rvs_cgf.specs.GroupView.{taken_view}
use Rattle.rvs_cgf.specs.PlaceView.{place_view}
use Rattle.rvs_cgf.proofs.entries.skip_entries.Given as goal

abbrev pub invariant-loop-i : goal.invariant-loop-i
invariant-loop-i l =
    for_each (under (place_view l.place) skipped_entry) (drop l.i (own_pairs (view l.entries)))
    (taken_view l.taken)
    ≡ passed_over (place_view l.place) (view l.entries) (taken_view l.fn.taken)
