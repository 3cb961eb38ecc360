use Rattle.std.proofs.Common.{◌≡◌, ◌∙◌, sym, ap, subst}
use Rattle.rvs_yaml.specs.StepParts.{closed_value}
use Rattle.rvs_yaml.specs.Sketched.{SketchedAs}
use Rattle.rvs_yaml.specs.Stack.{done_entries}
use Rattle.rvs_yaml.specs.StackView.{done_view}
use Rattle.rvs_yaml.specs.declared.reading.Pending.{Pending}
use Rattle.rvs_tree.specs.ValueView.{value_view, entries_view}
use Rattle.rvs_yaml_text.specs.KeyView.{key_view}
use Rattle.rvs_yaml.proofs.front.leaf_sketch.Goals as goal

pub returns-in-Entries : goal.returns-in-Entries
returns-in-Entries c =
    let line = c.args.block.now.line in
    let v = value_view c.args.own.now in
    let here : done_view c.args.block.now.done ≡ done_entries
    (entries_view c.deref.result.now.list.entries.items) (key_view c.deref.result.now.key) =
    ap done_view c.in-Entries.is ∙ sym (ap
    (λ (p : Pending). done_entries (entries_view p.list.entries.items) (key_view p.key))
    c.deref.ensures) in
    subst (λ d. SketchedAs c.entry_sketch.result (closed_value d line v)) (sym here)
    (c.entry_sketch.ensures line v (c.sketch_of.ensures.own c.args.own.now.bounded)
    c.brought-deepest.ensures.bound)
