use Rattle.std.proofs.Common.{◌≡◌, ◌∙◌, sym, ap, refl, arith}
use Rattle.std.proofs.lemmas.Bool.{false≢true}
use Rattle.rvs_tree.specs.Data.{depth, items_of}
use Rattle.rvs_tree.specs.Value.{is_mergeable, are_maps_or_empty, trees, nodes_from}
use Rattle.rvs_tree.specs.TreeView.{view}
use Rattle.rvs_tree.specs.ValueView.{values_view}
use Rattle.rvs_tree.proofs.Single.{thin_for, thin-mergeable, thin-depth, same-value}
use Rattle.rvs_tree.proofs.thin.thin_list_value.Goals as goal

pub overflow_add-list : goal.overflow_add-list
overflow_add-list c = omega (arith, c.args.list.now.shallow)

pub invariant_of-result : goal.invariant_of-result
invariant_of-result c =
    let list = c.args.list.now in
    let line = c.args.line in
    let d : depth (view c.in_ok-tree.tree.value) ≡ 1 =
    ap depth c.in_ok-tree.ensures ∙ thin-depth list.all_maps line in
    record {
      merging = sym (ap is_mergeable c.in_ok-tree.ensures ∙ thin-mergeable list.all_maps line);
      bounded = omega (arith, c.min.ensures, d);
      shallow = omega (arith, c.min.ensures);
      few = list.few;
      brings = λ k h. absurd (false≢true h);
      ready = refl;
    }

pub returns : goal.returns
returns c =
    let list = c.args.list.now in
    let vs = values_view list.values.items in
    same-value (view c.in_ok-tree.tree.value)
    (thin_for (are_maps_or_empty (items_of (trees vs))) c.args.line) list.nodes (nodes_from 1 vs)
    (c.in_ok-tree.ensures ∙ ap (λ b. thin_for b c.args.line) list.looked_at) list.added_up
