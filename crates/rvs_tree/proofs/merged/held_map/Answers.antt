use Rattle.std.proofs.Common.{◌≡◌, ◌∙◌, ap, subst, Option, IfSome, Global}
use Rattle.std.specs.declared.rc.Rc.{Rc}
use Rattle.rvs_tree.specs.Value as spec
use Rattle.rvs_tree.specs.TreeView.{view}
use Rattle.rvs_tree.specs.ValueView.{entries_view}
use Rattle.rvs_tree.specs.declared.tree.Tree.{Tree}
use Rattle.rvs_tree.proofs.merged.held_map.Goals as goal

pub returns-in-Some : goal.returns-in-Some
returns-in-Some c =
    let made = subst (λ (o : Option (Rc Tree Global)). IfSome o (λ t. view t.value
    ≡ (spec.map_value c.args.line (entries_view c.as_slice-entries.result.now)).tree))
    c.in-Some.is c.in_ok-tree.ensures in
    made ∙ ap (λ ws. (spec.map_value c.args.line (entries_view ws)).tree)
    c.as_slice-entries.ensures.value

pub returns : goal.returns
returns c =
    c.in_ok-map_draft.ensures ∙ ap (λ ws. (spec.map_value c.args.line (entries_view ws)).tree)
    c.as_slice-entries.ensures.value
