use Rattle.std.proofs.Common.{◌≡◌, ◌++◌, drop}
use Rattle.std.specs.List.{flat_map}
use Rattle.rvs_page.specs.Labels.{label_row}
use Rattle.rvs_page.proofs.labels.push_labels.Given as goal

abbrev pub invariant-loop-label : goal.invariant-loop-label
invariant-loop-label l =
    l.page.items ++ flat_map (label_row l.counted) (drop l.label-index l.labels)
    ≡ l.initial.page.items ++ flat_map (label_row l.counted) l.labels
