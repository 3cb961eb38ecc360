use Rattle.std.proofs.Common.{◌≡◌, ◌∙◌, ◌∷◌, suc, max, min, sym, ap, map, drop, add-one, drop-cons}
use Rattle.rvs_tree.specs.Data.{own_pairs}
use Rattle.rvs_tree.specs.Value.{explicit_keys, pairs_in}
use Rattle.rvs_tree.specs.Bound.{visible_depth}
use Rattle.rvs_tree.specs.TreeView.{view, rc_view}
use Rattle.rvs_tree.specs.ValueView.{entries_view}
use Rattle.rvs_tree.proofs.Depths.{visible-steps}
use Rattle.rvs_tree.proofs.entry_list.EntryList.visible_in_maps.Goals as goal

pub loop-tree-preserved : goal.loop-tree-preserved
loop-tree-preserved c =
    let E = explicit_keys (entries_view c.args.self.now.entries.items) in
    let i = c.loop-tree.tree-index in
    let ts = c.args.trees.now in
    let n = c.loop-tree.deepest in
    let rest = pairs_in (map rc_view (drop (suc i) ts)) in
    let split : drop i ts ≡ c.tree-item.result ∷ drop (suc i) ts =
    drop-cons ts i c.tree-item.result c.loop-tree-test.true
    ∙ ap (λ t. t ∷ drop (suc i) ts) (sym c.tree-item.is) in
    rw add-one (
    ap (λ m. max m (min (visible_depth E rest) 33)) (c.max-deepest.ensures ∙ ap (max n)
    (c.visible_in_map.ensures
    ∙ ap (λ t. min (visible_depth E (own_pairs (view t))) 33) c.deref.ensures))
    ∙ visible-steps E n (own_pairs (view c.tree-item.result.value)) rest
    ∙ sym (ap (λ us. max n (min (visible_depth E (pairs_in (map rc_view us))) 33)) split)
    ∙ c.loop-tree.invariant)
