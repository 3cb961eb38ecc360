use Rattle.std.proofs.Common.{◌≡◌, ◌≤◌, ◌∙◌, sym, ap, subst, min, ◌-◌}
use Rattle.std.specs.Prelude.{nat_lt, if◌then◌else◌}
use Rattle.rvs_tree.specs.Data.{is_list}
use Rattle.rvs_tree.specs.Bound.{visible_depth}
use Rattle.rvs_tree.specs.Value.{explicit_keys, merged_pairs}
use Rattle.rvs_tree.specs.DraftView.{draft_view}
use Rattle.rvs_tree.specs.HeldView.{held_view}
use Rattle.rvs_tree.specs.ValueView.{entries_view}
use Rattle.rvs_tree.proofs.Depths.{inside-bound}
use Rattle.rvs_tree.proofs.entry_list.EntryList.merged_depth.Goals as goal

pub returns-in-Merging-clause-bound : goal.returns-in-Merging-clause-bound
returns-in-Merging-clause-bound c =
    let E = explicit_keys (entries_view c.args.self.now.entries.items) in
    let d = held_view c.args.value.now.held in
    let n = c.args.value.now.depth in
    let listed : c.is_list.result ≡ is_list d = c.is_list.ensures
    ∙ ap (λ x. is_list (draft_view x)) c.deref-in-Merging.ensures
    ∙ sym (ap (λ h. is_list (held_view h)) c.in-Merging.is) in
    subst (λ m. min (visible_depth E (merged_pairs d)) 33 ≤ m) (sym
    (c.inside.ensures ∙ ap (λ b. if nat_lt n 33 then n - (if b then 2 else 1) else n) listed))
    (inside-bound E d n c.args.value.now.bounded)
