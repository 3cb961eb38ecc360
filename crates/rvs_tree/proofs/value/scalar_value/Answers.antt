use Rattle.std.proofs.Common.{◌≡◌, ◌∙◌, ap, refl, arith, string_bytes}
use Rattle.std.proofs.lemmas.Bool.{false≢true}
use Rattle.rvs_tree.specs.Data.{depth, scalar}
use Rattle.rvs_tree.specs.Value.{is_mergeable, plus, text_nodes}
use Rattle.rvs_tree.specs.TreeView.{view}
use Rattle.rvs_tree.proofs.Single.{same-value}
use Rattle.rvs_tree.proofs.value.scalar_value.Goals as goal

pub invariant_of-result : goal.invariant_of-result
invariant_of-result c =
    let d : depth (view c.in_ok-tree.tree.value) ≡ 1 = ap depth c.in_ok-tree.ensures in
    record {
      merging = c.is_mergeable-mergeable.ensures ∙ ap (λ t. is_mergeable (view t)) c.deref.ensures;
      bounded = omega (arith, d);
      shallow = omega arith;
      few = omega (arith, c.plus-nodes.ensures);
      brings = λ k h. absurd (false≢true h);
      ready = refl;
    }

pub returns-clause-value : goal.returns-clause-value
returns-clause-value c =
    let text = string_bytes c.args.text in
    same-value (view c.in_ok-tree.tree.value) (scalar text c.args.line) c.plus-nodes.result
    (plus 1 (text_nodes text)) c.in_ok-tree.ensures
    (c.plus-nodes.ensures
    ∙ ap (plus 1) (c.text_nodes.ensures ∙ ap text_nodes c.as_str.ensures.value))
