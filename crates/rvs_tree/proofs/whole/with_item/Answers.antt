use Rattle.std.proofs.Common.{◌∙◌, ap}
use Rattle.rvs_tree.specs.Data.{is_list}
use Rattle.rvs_tree.specs.DraftView.{part_view, draft_view}
use Rattle.rvs_tree.proofs.Drafts.{view-nested}
use Rattle.rvs_tree.proofs.Bared.{item-no-list}
use Rattle.std.proofs.Common.{◌≡◌, ◌∷◌, ◌++◌, [], sym, map, rules}
use Rattle.rvs_tree.specs.TreeView.{view, rc_view}
use Rattle.rvs_tree.proofs.Sums.{map-append}
use Rattle.rvs_tree.proofs.Drafts.{view-whole}
use Rattle.rvs_tree.proofs.Single.{merged-one}
use Rattle.rvs_tree.proofs.whole.with_item.Goals as goal

pub map_of-requires : goal.map_of-requires
map_of-requires c =
    ap (λ d. is_list (draft_view d)) c.deref.ensures ∙ item-no-list (part_view c.args.part.now)
    (draft_view c.in-Nested.draft.value)
    (view-nested c.args.part.now c.in-Nested.draft c.in-Nested.is) c.requires

pub returns-in_ok-push-in-Whole : goal.returns-in_ok-push-in-Whole
returns-in_ok-push-in-Whole c =
    let t = c.in_ok-tree-in-Whole.tree in
    let w = part_view c.args.part.now in
    let v = view-whole c.args.part.now c.in-Whole.tree c.in-Whole.is in
    let same : t.value ≡ c.in-Whole.tree.value = search rules in
    ap (map rc_view) c.in_ok-push-in-Whole.ensures.items
    ∙ map-append rc_view c.args.items.items (t ∷ [])
    ∙ ap (λ x. map rc_view c.args.items.items ++ x)
    (ap (λ d. d ∷ []) (ap view same ∙ sym (ap (λ u. u.value.tree) v))
    ∙ sym (merged-one w (ap (λ u. u.merges) v)))

pub returns-in_ok-push-in-Nested : goal.returns-in_ok-push-in-Nested
returns-in_ok-push-in-Nested c =
    let t = c.in_ok-tree-in-Nested.tree in
    let w = part_view c.args.part.now in
    let v = view-nested c.args.part.now c.in-Nested.draft c.in-Nested.is in
    ap (map rc_view) c.in_ok-push-in-Nested.ensures.items
    ∙ map-append rc_view c.args.items.items (t ∷ [])
    ∙ ap (λ x. map rc_view c.args.items.items ++ x)
    (ap (λ d. d ∷ []) (c.in_ok-tree-in-Nested.ensures ∙ ap draft_view c.deref.ensures
    ∙ sym (ap (λ u. u.value.tree) v)) ∙ sym (merged-one w (ap (λ u. u.merges) v)))
