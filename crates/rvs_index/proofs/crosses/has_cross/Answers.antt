use Rattle.rvs_index.proofs.Crossing.{selected_label}
use Rattle.rvs_index.proofs.crosses.has_cross.Goals as goal

pub returns-then-label : goal.returns-then-label
returns-then-label c =
    selected_label c.args.count c.args.label.now c.as_slice.result.now
    c.any_has_places.result c.if-label.true c.as_slice.ensures c.any_has_places.ensures
