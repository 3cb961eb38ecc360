use Rattle.std.proofs.Common.{◌∙◌, sym, ap, refl}
use Rattle.rvs_tree.specs.Value.{Value, is_map_or_empty, is_mergeable}
use Rattle.rvs_tree.specs.ValueView.{value_view}
use Rattle.rvs_tree.proofs.Depths.{some-depth}
use Rattle.rvs_yaml.proofs.Thinning.{thin-map, thin-mergeable}
use Rattle.rvs_yaml.proofs.front.sketch_of.Goals as goal

pub returns-clause-own : goal.returns-clause-own
returns-clause-own c = λ small. record {
  bounded = small;
  reached = some-depth (value_view c.args.value.now).tree;
  counted = refl;
  map = sym c.is_map_or_empty.ensures;
  merging = sym c.args.value.now.merging;
}

pub returns-clause-thin : goal.returns-clause-thin
returns-clause-thin c = λ v same small. record {
  bounded = small;
  reached = some-depth v.tree;
  counted = sym (ap (λ (x : Value). x.nodes) same);
  map = sym (thin-map v.tree) ∙ sym (ap (λ (x : Value). is_map_or_empty x.tree) same)
      ∙ sym c.is_map_or_empty.ensures;
  merging = sym (thin-mergeable v.tree) ∙ sym (ap (λ (x : Value). is_mergeable x.tree) same)
      ∙ sym c.args.value.now.merging;
}
