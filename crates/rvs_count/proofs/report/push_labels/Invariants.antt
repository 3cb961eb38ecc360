use Rattle.std.proofs.Common.{◌≡◌, ◌++◌, length, map, drop}
use Rattle.rvs_points.specs.PointView.{label_view}
use Rattle.rvs_index.specs.Counting.{aims_in}
use Rattle.rvs_count.specs.Report.{labels_text}
use Rattle.rvs_count.proofs.report.push_labels.Given as goal

abbrev pub invariant-loop-label : goal.invariant-loop-label
invariant-loop-label l = record {
  left : length l.rest ≡ length (aims_in (drop l.label-index l.labels));
  same : l.text ++ labels_text l.rest (map label_view (drop l.label-index l.labels))
      ≡ l.fn.text ++ labels_text l.counts (map label_view l.labels);
}
