use Rattle.std.proofs.Common.{◌≡◌, ◌∙◌, ◌∷◌, ◌++◌, [], suc, ◌+◌, ◌≤◌, sym, ap, drop, add-one}
use Rattle.std.proofs.Common.{drop-cons, append_assoc, append-nil, arith}
use Rattle.std.proofs.lemmas.List.{drop_all}
use Rattle.rvs_tree.specs.Sifted.{kept}
use Rattle.rvs_tree.specs.Parts.{takes}
use Rattle.rvs_tree.specs.DraftView.{part_view}
use Rattle.rvs_tree.specs.GatheredView.{taken_view}
use Rattle.rvs_tree.specs.PartsView.{parts_view, refs_view, part_size, sizes, ref_sizes}
use Rattle.rvs_tree.proofs.Entering.{takes-step, kept-step}
use Rattle.rvs_tree.proofs.spread.keep.Goals as goal

pub loop-part-preserved : goal.loop-part-preserved
loop-part-preserved c =
    let i = c.loop-part.part-index in
    let ps = c.args.parts.now in
    let p = c.part-item.result in
    let T = taken_view c.loop-part.taken in
    let rest = parts_view (drop (suc i) ps) in
    let split : drop i ps ≡ p ∷ drop (suc i) ps = drop-cons ps i p c.loop-part-test.true
    ∙ ap (λ t. t ∷ drop (suc i) ps) (sym c.part-item.is) in
    let new = taken_view c.in_ok-kept.field-0-1 in
    let old = refs_view c.loop-part.kept.items in
    let after : new ≡ takes T (part_view p ∷ []) = c.in_ok-kept.ensures.taken in
    let more : refs_view c.in_ok-kept.field-0-0.items ≡ old ++ kept T (part_view p ∷ []) =
    c.in_ok-kept.ensures.kept in
    let small : ref_sizes c.in_ok-kept.field-0-0.items ≤ ref_sizes c.loop-part.kept.items
    + part_size p = c.in_ok-kept.ensures.small in
    rw add-one (
      ap (λ t. takes t rest) after ∙ sym (takes-step T (part_view p) rest)
          ∙ sym (ap (λ us. takes T (parts_view us)) split) ∙ c.loop-part.invariant.0,
      ap (λ x. x ++ kept new rest) more
          ∙ ap (λ t. (old ++ kept T (part_view p ∷ [])) ++ kept t rest) after
          ∙ append_assoc old (kept T (part_view p ∷ [])) (kept (takes T (part_view p ∷ [])) rest)
          ∙ ap (λ x. old ++ x)
          (sym (kept-step T (part_view p) rest) ∙ sym (ap (λ us. kept T (parts_view us)) split))
          ∙ c.loop-part.invariant.1,
      omega (arith, c.loop-part.invariant.2, small, ap sizes split),
    )

pub returns : goal.returns
returns c =
    let i = c.loop-part.part-index in
    let ps = c.args.parts.now in
    let T = taken_view c.loop-part.taken in
    let old = refs_view c.loop-part.kept.items in
    let none : drop i ps ≡ [] = drop_all i ps c.loop-part-test.false in
    record {
      taken = sym (ap (λ us. takes T (parts_view us)) none) ∙ c.loop-part.invariant.0;
      kept = sym (append-nil old) ∙ sym (ap (λ us. old ++ kept T (parts_view us)) none)
          ∙ c.loop-part.invariant.1;
      small = omega (arith, c.loop-part.invariant.2);
    }
