use Rattle.std.proofs.Common.{◌≡◌, ◌∙◌, ap, map, take, length, arith}
use Rattle.rvs_tree.specs.Value as spec
use Rattle.rvs_tree.specs.TreeView.{rc_view}
use Rattle.rvs_tree.specs.ValueView.{value_view, values_view}
use Rattle.rvs_tree.proofs.Sums.{take_whole}
use Rattle.rvs_tree.proofs.Single.{pushed, map-map-push}
use Rattle.rvs_tree.proofs.merged.shared_trees.Goals as goal

pub loop-value-init : goal.loop-value-init
loop-value-init c = ap (map rc_view) c.in_ok-trees.ensures.items

pub loop-value-preserved : goal.loop-value-preserved
loop-value-preserved c =
    pushed rc_view (λ vs. spec.trees (values_view vs)) (λ v. (value_view v).tree)
    (map-map-push value_view (λ v. v.tree)) c.loop-value.trees.items c.push.new.self.items _
    c.args.values.now c.loop-value.value-index c.value-item.result c.in_ok-push.ensures.items
    c.loop-value.invariant c.loop-value-test.true
    (c.in_ok-tree_of.ensures ∙ ap (λ v. (value_view v).tree) c.value-item.is)

pub returns : goal.returns
returns c =
    let vs = c.args.values.now in
    let all : c.loop-value.value-index ≡ length vs =
    omega (arith, c.loop-value.auto.value-index-end, c.loop-value-test.false) in
    c.loop-value.invariant ∙ ap (λ n. spec.trees (values_view (take n vs))) all
    ∙ ap (λ us. spec.trees (values_view us)) (take_whole vs)
