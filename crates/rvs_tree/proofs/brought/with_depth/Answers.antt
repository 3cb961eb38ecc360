use Rattle.std.proofs.Common.{◌∙◌, ◌∷◌, ◌++◌, [], ap}
use Rattle.rvs_tree.specs.ShownView.{depths_view}
use Rattle.rvs_tree.proofs.Sums.{map-append}
use Rattle.rvs_tree.proofs.Single.{same-pair}
use Rattle.rvs_tree.proofs.brought.with_depth.Goals as goal

pub returns : goal.returns
returns c =
    let old = depths_view c.args.depths.items in
    ap depths_view c.in_ok-push.ensures.items ∙ map-append _ c.args.depths.items (_ ∷ [])
    ∙ ap (λ p. old ++ p ∷ [])
    (same-pair _ _ _ _ c.in_ok-key.ensures.ok c.depth_up_to-depth.ensures)
