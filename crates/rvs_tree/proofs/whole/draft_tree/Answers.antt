use Rattle.std.proofs.Common.{◌≡◌, ◌∙◌, true, sym, ap}
use Rattle.std.specs.declared.alloc.Global.{Global}
use Rattle.std.specs.declared.rc.Rc.{Rc}
use Rattle.rvs_tree.specs.Data.{sequence, items_of, is_list, line_of}
use Rattle.rvs_tree.specs.DraftView.{draft_view, merged_trees}
use Rattle.rvs_tree.specs.PartsView.{parts_view}
use Rattle.rvs_tree.specs.declared.tree.Tree.{Tree}
use Rattle.rvs_tree.proofs.Views.{ok_more}
use Rattle.rvs_tree.proofs.Bared.{mergeable-items}
use Rattle.rvs_tree.proofs.whole.draft_tree.Goals as goal

pub trees_of-requires : goal.trees_of-requires
trees_of-requires c =
    let d = draft_view c.args.draft.now in
    let listed : is_list d ≡ true = sym c.is_list.ensures ∙ c.if-is_list.true in
    let q = c.parts.ensures.items listed in
    mergeable-items d (parts_view c.parts.result.now) q.0 q.1 c.requires

pub returns-in_ok-items : goal.returns-in_ok-items
returns-in_ok-items c =
    let d = draft_view c.args.draft.now in
    let listed : is_list d ≡ true = sym c.is_list.ensures ∙ c.if-is_list.true in
    let q = c.parts.ensures.items listed in
    let ds = merged_trees (parts_view c.parts.result.now) in
    ok_more c.new_list.result c.new_list.ensures (λ (t : Rc Tree Global) h.
    h ∙ ap (λ xs. sequence (items_of xs) c.line.result) c.in_ok-items.ensures
    ∙ ap (sequence (items_of ds)) (c.line.ensures ∙ ap line_of q.1) ∙ sym q.1)

pub map_of-requires : goal.map_of-requires
map_of-requires c = sym c.is_list.ensures ∙ c.if-is_list.false
