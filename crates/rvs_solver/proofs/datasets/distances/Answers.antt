use Rattle.std.proofs.Common.{◌∙◌, ◌++◌, ◌∷◌, [], ap, sym, rules, FitsSigned}
use Rattle.std.specs.Int.{w32}
use Rattle.std.proofs.lemmas.Int.{to_z-of_z}
use Rattle.rvs_solver.specs.Datasets.{distance}
use Rattle.rvs_solver.proofs.Sets.{distances_more}
use Rattle.rvs_solver.proofs.datasets.distances.Goals as goal

pub loop-k-preserved : goal.loop-k-preserved
loop-k-preserved c =
    let fits : FitsSigned w32 c.distance.result = search rules in
    c.in_ok-push.ensures.items
    ∙ ap (λ z. c.loop-k.list.items ++ z ∷ []) (to_z-of_z _ _ fits ∙ c.distance.ensures)
    ∙ ap (λ l. l ++ distance c.loop-k.k ∷ []) c.loop-k.invariant
    ∙ sym (distances_more c.loop-k.k)
