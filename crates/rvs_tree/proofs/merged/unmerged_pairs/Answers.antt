use Rattle.std.proofs.Common.{◌≡◌, ◌∙◌, ◌∷◌, [], suc, sym, ap, subst, drop, drop-cons}
use Rattle.std.proofs.Common.{add-one, Option}
use Rattle.std.proofs.Common.{ℕ, List, IfSome}
use Rattle.rvs_tree.specs.Value.{resolved, explicit_keys}
use Rattle.rvs_tree.specs.ValueView.{entries_view, written_view}
use Rattle.rvs_tree.specs.PairsView.{pairs_view}
use Rattle.rvs_tree.specs.declared.pairs.Pairs.{Pairs}
use Rattle.rvs_tree.proofs.Single.{resolved-step}
use Rattle.rvs_tree.proofs.merged.unmerged_pairs.Goals as goal

pub returns-in-None : goal.returns-in-None
returns-in-None c = tt

pub loop-written-preserved : goal.loop-written-preserved
loop-written-preserved c =
    let i = c.loop-written.written-index in
    let es = c.args.entries.now in
    let E = explicit_keys (entries_view es) in
    let w = c.written-item.result in
    let s = pairs_view c.loop-written.pairs in
    let rest = entries_view (drop (suc i) es) in
    let split : drop i es ≡ w ∷ drop (suc i) es = drop-cons es i w c.loop-written-test.true
    ∙ ap (λ t. t ∷ drop (suc i) es) (sym c.written-item.is) in
    let more = subst (λ (o : Option Pairs). IfSome o (λ p. (taken : List (List ℕ)) → pairs_view p
    ≡ resolved taken s (written_view w ∷ []))) c.in-Some.is c.in_ok-with_unmerged.ensures in
    rw add-one (ap (λ t. resolved E t rest) (more E)
    ∙ sym (resolved-step E s (written_view w) rest)
    ∙ sym (ap (λ us. resolved E s (entries_view us)) split)
    ∙ c.loop-written.invariant)
