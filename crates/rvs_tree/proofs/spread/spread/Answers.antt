use Rattle.std.proofs.Common.{ap, arith}
use Rattle.rvs_tree.specs.PartsView.{ref_sizes}
use Rattle.rvs_tree.proofs.Drafts.{sizes-push}
use Rattle.std.proofs.Common.{◌≡◌, ◌∙◌, [], sym, rules, append-nil}
use Rattle.rvs_tree.specs.PairsView.{pairs_view}
use Rattle.rvs_tree.specs.PartsView.{brings, next_view}
use Rattle.rvs_tree.proofs.Drafts.{next-push}
use Rattle.rvs_tree.proofs.spread.spread.Goals as goal

pub loop-part-smaller : goal.loop-part-smaller
loop-part-smaller c = omega (
  arith,
  c.in_ok-gathered.ensures.small,
  ap ref_sizes c.in-Some.ensures.items,
  sizes-push c.pop.new.self.items c.in-Some.part,
)

pub loop-part-preserved : goal.loop-part-preserved
loop-part-preserved c =
    c.in_ok-gathered.ensures.brought
    ∙ sym (ap (λ ws. brings c.loop-part.gathered ws)
    (ap next_view c.in-Some.ensures.items ∙ next-push c.pop.new.self.items c.in-Some.part))
    ∙ c.loop-part.invariant

pub returns : goal.returns
returns c =
    let none : c.loop-part.work.items ≡ [] = search rules in
    sym (append-nil (pairs_view c.loop-part.gathered.pairs))
    ∙ sym (ap (λ ps. brings c.loop-part.gathered (next_view ps)) none) ∙ c.loop-part.invariant
