use Rattle.std.proofs.Common.{◌≡◌, ◌++◌, map, drop, flat_map}
use Rattle.rvs_points.specs.PointView.{skipped_view}
use Rattle.rvs_count.specs.Report.{skipped_line}
use Rattle.rvs_count.proofs.report.push_skipped.Given as goal

abbrev pub invariant-loop-one : goal.invariant-loop-one
invariant-loop-one l =
    l.text ++ flat_map skipped_line (map skipped_view (drop l.one-index l.skipped))
    ≡ l.fn.text ++ flat_map skipped_line (map skipped_view l.skipped)
