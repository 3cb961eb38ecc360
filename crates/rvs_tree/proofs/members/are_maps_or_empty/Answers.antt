use Rattle.std.proofs.Common.{◌≡◌, ◌∙◌, ◌∷◌, [], suc, true, false, sym, ap, map, drop, drop-cons}
use Rattle.std.proofs.Common.{add-one}
use Rattle.std.specs.Prelude.{◌&&◌}
use Rattle.std.proofs.lemmas.List.{drop_all}
use Rattle.rvs_tree.specs.Data.{items_of}
use Rattle.rvs_tree.specs.Value.{is_map_or_empty, are_maps_or_empty}
use Rattle.rvs_tree.specs.TreeView.{view, rc_view}
use Rattle.rvs_tree.proofs.members.are_maps_or_empty.Goals as goal

pub loop-item-preserved : goal.loop-item-preserved
loop-item-preserved c =
    let i = c.loop-item.item-index in
    let ts = c.args.items.now in
    let t = c.item-item.result in
    let rest = are_maps_or_empty (items_of (map rc_view (drop (suc i) ts))) in
    let split : drop i ts ≡ t ∷ drop (suc i) ts = drop-cons ts i t c.loop-item-test.true
    ∙ ap (λ u. u ∷ drop (suc i) ts) (sym c.item-item.is) in
    let one : is_map_or_empty (rc_view t) ≡ true =
    sym (ap (λ u. is_map_or_empty (view u)) c.deref.ensures) ∙ sym c.is_map_or_empty.ensures
    ∙ c.if-not-is_map_or_empty.false in
    rw add-one (sym (ap (λ b. b && rest) one)
    ∙ sym (ap (λ us. are_maps_or_empty (items_of (map rc_view us))) split)
    ∙ c.loop-item.invariant)

pub returns : goal.returns
returns c =
    let i = c.loop-item.item-index in
    let ts = c.args.items.now in
    let none : drop i ts ≡ [] = drop_all i ts c.loop-item-test.false in
    sym (ap (λ us. are_maps_or_empty (items_of (map rc_view us))) none) ∙ c.loop-item.invariant

pub returns-then-not-is_map_or_empty : goal.returns-then-not-is_map_or_empty
returns-then-not-is_map_or_empty c =
    let i = c.loop-item.item-index in
    let ts = c.args.items.now in
    let t = c.item-item.result in
    let rest = are_maps_or_empty (items_of (map rc_view (drop (suc i) ts))) in
    let split : drop i ts ≡ t ∷ drop (suc i) ts = drop-cons ts i t c.loop-item-test.true
    ∙ ap (λ u. u ∷ drop (suc i) ts) (sym c.item-item.is) in
    let one : is_map_or_empty (rc_view t) ≡ false =
    sym (ap (λ u. is_map_or_empty (view u)) c.deref.ensures) ∙ sym c.is_map_or_empty.ensures
    ∙ c.if-not-is_map_or_empty.true in
    sym (ap (λ b. b && rest) one)
    ∙ sym (ap (λ us. are_maps_or_empty (items_of (map rc_view us))) split)
    ∙ c.loop-item.invariant
