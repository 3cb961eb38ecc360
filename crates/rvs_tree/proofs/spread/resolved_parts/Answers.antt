use Rattle.std.proofs.Common.{◌≡◌, ◌∙◌, ◌++◌, [], ap}
use Rattle.rvs_tree.specs.Sifted.{later}
use Rattle.rvs_tree.specs.Parts.{takes}
use Rattle.rvs_tree.specs.GatheredView.{taken_view}
use Rattle.rvs_tree.specs.PartsView.{parts_view, next_view}
use Rattle.rvs_tree.proofs.Entering.{whole-map}
use Rattle.rvs_tree.proofs.spread.resolved_parts.Goals as goal

pub returns : goal.returns
returns c =
    let ws = parts_view c.args.parts.now in
    let T = taken_view c.in_ok-work.taken in
    let keys : T ≡ takes [] ws =
    ap taken_view c.in_ok-work.ensures.1 ∙ c.in_ok-kept.ensures.taken
    ∙ ap (λ t. takes t ws) c.new.ensures in
    let work : next_view c.in_ok-work.work.items ≡ ws =
    rw c.in_ok-work.ensures.0 at c.all_of.ensures in
    c.in_ok-pairs.ensures
    ∙ ap (λ x. x ++ later T (next_view c.in_ok-work.work.items)) c.new-2.ensures
    ∙ ap (later T) work ∙ whole-map ws T keys
