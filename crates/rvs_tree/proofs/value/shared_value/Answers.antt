use Rattle.std.proofs.Common.{◌∙◌, ◌≤◌, sym, ap, subst, refl, min}
use Rattle.std.proofs.lemmas.Bool.{false≢true}
use Rattle.std.specs.Prelude.{◌||◌}
use Rattle.rvs_tree.specs.Data.{Data, depth}
use Rattle.rvs_tree.specs.Value.{is_mergeable}
use Rattle.rvs_tree.specs.HeldView.{held_view}
use Rattle.rvs_tree.proofs.Single.{same-value}
use Rattle.rvs_tree.proofs.value.shared_value.Goals as goal

pub invariant_of-result : goal.invariant_of-result
invariant_of-result c =
    let v = c.args.value.now in
    let same = c.in_ok-share.ensures.view in
    record {
      merging = v.merging ∙ sym (ap is_mergeable same);
      bounded = subst (λ (d : Data). min (depth d) 33 ≤ v.depth) (sym same) v.bounded;
      shallow = v.shallow;
      few = v.few;
      brings = λ k h. absurd (false≢true h);
      ready = ap (λ b. b || v.mergeable) c.in_ok-share.ensures.whole ∙ v.ready;
    }

pub returns-clause-value : goal.returns-clause-value
returns-clause-value c =
    let v = c.args.value.now in
    same-value (held_view c.in_ok-share.field-0) (held_view v.held) v.nodes v.nodes
    c.in_ok-share.ensures.view refl

pub returns-clause-depth : goal.returns-clause-depth
returns-clause-depth c = refl
