use Rattle.std.proofs.Common.{◌≤◌, ◌<◌, ◌-◌, ◌∙◌, arith, min}
use Rattle.rvs_tree.specs.Bound.{brought}
use Rattle.rvs_tree.proofs.Sums.{merged_shallower, brought_less}
use Rattle.rvs_yaml.proofs.Sketching.{list-shallower}
use Rattle.rvs_yaml.proofs.front.brought_depth.Goals.{then-last, else-last}
use Rattle.rvs_yaml.proofs.front.brought_depth.Goals as goal

pub returns-clause-bound : goal.returns-clause-bound
returns-clause-bound c = λ taken v s.
    let n = c.args.last.now.depth in
    let m = c.args.key.now.merges in
    let small : n < 33 = omega (arith, c.if-last-ge-DEEP.false) in
    elim c.if-last.branch [
      | then-last w ↦
          let less : min (brought taken m v.tree) 33 ≤ n - 1 = brought_less taken m v.tree n 1
          c.if-not-key.false s.bounded small (omega (arith, merged_shallower v.tree)) in
          omega (arith, less, c.saturating_sub.ensures, w.hidden-is)
      | else-last w ↦
          let less : min (brought taken m v.tree) 33 ≤ n - 2 = brought_less taken m v.tree n 2
          c.if-not-key.false s.bounded small
          (list-shallower v.tree (s.map ∙ w.if-last.false)) in
          omega (arith, less, c.saturating_sub.ensures, w.hidden-is)
    ]
