use Rattle.std.proofs.Common.{◌≡◌, ◌∙◌, ◌∷◌, ◌-◌, ◌<◌, ◌≤◌, suc, sym, ap, drop, drop-cons}
use Rattle.std.proofs.Common.{length, arith}
use Rattle.std.proofs.lemmas.List.{drop_all}
use Rattle.rvs_tree.specs.DraftView.{part_view}
use Rattle.rvs_tree.specs.PartsView.{parts_view, next_view}
use Rattle.rvs_tree.proofs.Drafts.{next-push}
use Rattle.rvs_tree.proofs.spread.all_of.Goals as goal

pub loop-left-preserved : goal.loop-left-preserved
loop-left-preserved c =
    let ps = c.args.parts.now in
    let n = c.loop-left.left - 1 in
    let p = c.index-parts-left.result in
    let back : suc n ≡ c.loop-left.left = omega (arith, c.loop-left-test.true) in
    let inside : n < length ps = omega (arith, c.loop-left-test.true, c.loop-left.invariant.1) in
    let split : drop n ps ≡ p ∷ drop (suc n) ps = drop-cons ps n p inside
    ∙ ap (λ t. t ∷ drop (suc n) ps) (sym c.index-parts-left.is) in (
      ap next_view c.in_ok-push.ensures.items ∙ next-push c.loop-left.work.items _
          ∙ ap (λ us. part_view p ∷ us) c.loop-left.invariant.0
          ∙ sym (ap parts_view split ∙ ap (λ k. part_view p ∷ parts_view (drop k ps)) back),
      omega (arith, c.loop-left.invariant.1),
    )

pub loop-left-init : goal.loop-left-init
loop-left-init c =
    let ps = c.args.parts.now in
    let all : length ps ≤ length ps = omega arith in (
      ap next_view c.new-work.ensures.items ∙ sym (ap parts_view (drop_all (length ps) ps all)),
      all,
    )

pub returns : goal.returns
returns c =
    let none : c.loop-left.left ≡ 0 = omega (arith, c.loop-left-test.false) in
    c.loop-left.invariant.0 ∙ ap (λ n. parts_view (drop n c.args.parts.now)) none
