use Rattle.std.proofs.Common.{◌≡◌, ◌∙◌, ◌∷◌, ◌++◌, [], suc, ◌+◌, ◌≤◌, sym, ap, drop, add-one}
use Rattle.std.proofs.Common.{drop-cons, append_assoc, arith}
use Rattle.rvs_tree.specs.Parts.{map_entries}
use Rattle.rvs_tree.specs.DraftView.{part_view}
use Rattle.rvs_tree.specs.PartsView.{parts_view, refs_view, part_size, sizes, ref_sizes}
use Rattle.rvs_tree.proofs.Entering.{map-entries-step}
use Rattle.rvs_tree.proofs.spread.maps_in.Goals as goal

pub loop-part-preserved : goal.loop-part-preserved
loop-part-preserved c =
    let i = c.loop-part.part-index in
    let ps = c.args.parts.now in
    let p = c.part-item.result in
    let rest = parts_view (drop (suc i) ps) in
    let split : drop i ps ≡ p ∷ drop (suc i) ps = drop-cons ps i p c.loop-part-test.true
    ∙ ap (λ t. t ∷ drop (suc i) ps) (sym c.part-item.is) in
    let old = refs_view c.loop-part.maps.items in
    let more : refs_view c.in_ok-maps.maps.items ≡ old ++ map_entries (part_view p ∷ []) =
    c.in_ok-maps.ensures.maps in
    let small : ref_sizes c.in_ok-maps.maps.items ≤ ref_sizes c.loop-part.maps.items + part_size p =
    c.in_ok-maps.ensures.small in
    rw add-one (
      ap (λ x. x ++ map_entries rest) more
          ∙ append_assoc old (map_entries (part_view p ∷ [])) (map_entries rest)
          ∙ ap (λ x. old ++ x) (sym (map-entries-step (part_view p) rest)
          ∙ sym (ap (λ us. map_entries (parts_view us)) split))
          ∙ c.loop-part.invariant.0,
      omega (arith, c.loop-part.invariant.1, small, ap sizes split),
    )
