use Rattle.std.proofs.Common.{◌≡◌, ◌∙◌, ◌++◌, ◌∷◌, [], sym, ap, subst}
use Rattle.rvs_tree.specs.Value.{list_value}
use Rattle.rvs_yaml.specs.StepParts.{closed_value}
use Rattle.rvs_yaml.specs.Sketched.{SketchedAs}
use Rattle.rvs_yaml.specs.Stack.{done_entries}
use Rattle.rvs_yaml.specs.StackView.{done_view}
use Rattle.rvs_yaml.specs.declared.reading.Pending.{Pending}
use Rattle.rvs_tree.specs.ValueView.{values_view, entries_view}
use Rattle.rvs_yaml_text.specs.KeyView.{key_view}
use Rattle.rvs_yaml.proofs.front.closed_sketch.Goals as goal

pub returns-in-Items : goal.returns-in-Items
returns-in-Items c = λ v s.
    let line = c.args.block.now.line in (
      list_value line (values_view c.in-Items.list.values.items ++ v ∷ []),
      ap (λ d. closed_value (done_view d) line v) c.in-Items.is,
      c.list_sketch.ensures line v s,
    )

pub returns-in-Entries : goal.returns-in-Entries
returns-in-Entries c = λ v s.
    let line = c.args.block.now.line in
    let here : done_view c.args.block.now.done ≡ done_entries
    (entries_view c.deref.result.now.list.entries.items) (key_view c.deref.result.now.key) =
    ap done_view c.in-Entries.is ∙ sym (ap
    (λ (p : Pending). done_entries (entries_view p.list.entries.items) (key_view p.key))
    c.deref.ensures) in
    subst (λ d. SketchedAs c.entry_sketch.result (closed_value d line v)) (sym here)
    (c.entry_sketch.ensures line v s (c.brought_depth.ensures.bound _ v s))
