use Rattle.std.proofs.Common.{◌≡◌, ◌++◌, drop}
use Rattle.std.specs.List.{flat_map}
use Rattle.rvs_page.specs.Points.{skipped_row}
use Rattle.rvs_page.proofs.points.push_each_skipped.Given as goal

abbrev pub invariant-loop-one : goal.invariant-loop-one
invariant-loop-one l =
    l.page.items ++ flat_map (skipped_row l.counted) (drop l.one-index l.skipped)
    ≡ l.initial.page.items ++ flat_map (skipped_row l.counted) l.skipped
