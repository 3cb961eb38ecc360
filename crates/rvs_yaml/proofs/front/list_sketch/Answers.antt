use Rattle.std.proofs.Common.{◌++◌, ◌∷◌, [], ◌∙◌, sym, ap, arith, refl}
use Rattle.std.specs.Prelude.{◌&&◌}
use Rattle.rvs_tree.specs.Value.{plus, is_map_or_empty}
use Rattle.rvs_tree.specs.ValueView.{values_view}
use Rattle.rvs_tree.proofs.Sums.{nodes_from-push, values_depth-push, are_maps-push}
use Rattle.rvs_tree.proofs.Merging.{list-depth}
use Rattle.rvs_yaml.proofs.front.list_sketch.Goals as goal

pub returns : goal.returns
returns c = λ line v s.
    let vs = values_view c.args.list.now.values.items in
    record {
      bounded = omega (
        arith,
        list-depth (vs ++ v ∷ []),
        values_depth-push vs v,
        c.args.list.now.bounded,
        s.bounded,
      );
      reached = omega (arith, list-depth (vs ++ v ∷ []), values_depth-push vs v, s.reached);
      counted = nodes_from-push 1 vs v ∙ ap (λ n. plus n v.nodes) (sym c.args.list.now.added_up)
          ∙ ap (plus c.args.list.now.nodes) s.counted ∙ sym c.plus.ensures;
      map = refl;
      merging = are_maps-push vs v
          ∙ ap (λ b. b && is_map_or_empty v.tree) (sym c.args.list.now.looked_at)
          ∙ ap (λ b. c.args.list.now.all_maps && b) s.map ∙ sym c.both.ensures;
    }
