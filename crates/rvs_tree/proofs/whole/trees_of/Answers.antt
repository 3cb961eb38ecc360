use Rattle.std.proofs.Common.{◌≡◌, ◌∙◌, ◌∷◌, ◌++◌, [], suc, sym, ap, map, drop, add-one, drop-cons}
use Rattle.std.proofs.Common.{append_assoc}
use Rattle.rvs_tree.specs.Data.{items_of}
use Rattle.rvs_tree.specs.Value.{are_maps_or_empty}
use Rattle.rvs_tree.specs.TreeView.{rc_view}
use Rattle.rvs_tree.specs.DraftView.{part_view, merged_trees}
use Rattle.rvs_tree.specs.PartsView.{parts_view}
use Rattle.rvs_tree.proofs.Bared.{trees-step, maps-step}
use Rattle.std.proofs.Common.{arith, append-nil}
use Rattle.std.proofs.lemmas.List.{drop_all}
use Rattle.rvs_tree.proofs.whole.trees_of.Goals as goal

pub with_item-requires : goal.with_item-requires
with_item-requires c =
    let i = c.loop-part.part-index in
    let ps = c.args.parts.now in
    let p = c.part-item.result in
    let split : drop i ps ≡ p ∷ drop (suc i) ps = drop-cons ps i p c.loop-part-test.true
    ∙ ap (λ t. t ∷ drop (suc i) ps) (sym c.part-item.is) in
    (maps-step (part_view p) (parts_view (drop (suc i) ps))
    (sym (ap (λ us. are_maps_or_empty (items_of (merged_trees (parts_view us)))) split)
    ∙ c.loop-part.invariant.ready)).0

pub loop-part-preserved : goal.loop-part-preserved
loop-part-preserved c =
    let i = c.loop-part.part-index in
    let ps = c.args.parts.now in
    let p = c.part-item.result in
    let rest = parts_view (drop (suc i) ps) in
    let split : drop i ps ≡ p ∷ drop (suc i) ps = drop-cons ps i p c.loop-part-test.true
    ∙ ap (λ t. t ∷ drop (suc i) ps) (sym c.part-item.is) in
    let old = map rc_view c.loop-part.items.items in
    let more : map rc_view c.in_ok-items-2.items.items ≡ old ++ merged_trees (part_view p ∷ []) =
    c.in_ok-items-2.ensures in
    rw add-one (
    record {
      ready = (maps-step (part_view p) rest
          (sym (ap (λ us. are_maps_or_empty (items_of (merged_trees (parts_view us)))) split)
          ∙ c.loop-part.invariant.ready)).1;
      same = ap (λ x. x ++ merged_trees rest) more
          ∙ append_assoc old (merged_trees (part_view p ∷ [])) (merged_trees rest)
          ∙ ap (λ x. old ++ x) (sym (trees-step (part_view p) rest)
          ∙ sym (ap (λ us. merged_trees (parts_view us)) split))
          ∙ c.loop-part.invariant.same;
    }
    )

pub loop-part-init : goal.loop-part-init
loop-part-init c = record {
  ready = c.requires;
  same = ap (λ xs. map rc_view xs ++ merged_trees (parts_view c.args.parts.now))
      c.in_ok-items.ensures.items;
}

pub returns : goal.returns
returns c =
    let ps = c.args.parts.now in
    let none : drop c.loop-part.part-index ps ≡ [] =
    drop_all c.loop-part.part-index ps (omega (arith, c.loop-part-test.false)) in
    sym (append-nil (map rc_view c.loop-part.items.items))
    ∙ sym (ap (λ us. map rc_view c.loop-part.items.items ++ merged_trees (parts_view us)) none)
    ∙ c.loop-part.invariant.same
