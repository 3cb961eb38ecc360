use Rattle.std.proofs.Common.{◌∷◌, ◌++◌, [], ◌∙◌, ap}
use Rattle.rvs_tree.specs.ValueView.{entries_view}
use Rattle.rvs_yaml.specs.Stack.{done_entries}
use Rattle.rvs_yaml.specs.declared.reading.Pending.{Pending}
use Rattle.rvs_yaml_text.specs.KeyView.{key_view}
use Rattle.rvs_yaml.proofs.next_entries.with_entry.Goals as goal

pub returns : goal.returns
returns c =
    let next = c.args.next in
    ap (λ (p : Pending). done_entries (entries_view p.list.entries.items) (key_view p.key))
    c.in_ok-new.ensures.ok
    ∙ ap (λ ws. done_entries ws (key_view next)) c.in_ok-list.ensures.entries
    ∙ ap (λ u. done_entries (entries_view c.args.entries.entries.items ++ u ∷ []) (key_view next))
    c.entry_of.ensures
