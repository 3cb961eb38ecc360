use Rattle.std.proofs.Common.{List, ap, length, not, ◌∙◌, ℕ}
use Rattle.std.specs.Prelude.{◌==◌}
use Rattle.rvs_points.specs.declared.group.Label.{Label}
use Rattle.rvs_index.specs.Counting.{aims_in}
use Rattle.rvs_index.specs.State.{any_cross}
use Rattle.rvs_index.proofs.Following.{any_lengths}
use Rattle.rvs_index.proofs.crosses.Crosses.is_any.Goals as goal

pub returns : goal.returns
returns c =
    ap not (c.is_empty.ensures
    ∙ ap (λ (ns : List ℕ). length ns == 0) (c.as_slice.ensures ∙ c.self.invariant.lengths))
    ∙ any_lengths c.self.inside.labels.now
    ∙ ap (λ (ls : List Label). any_cross (aims_in ls)) c.self.view_is
