use Rattle.std.proofs.Common.{◌≡◌, ℕ, ◌∙◌, ◌∷◌, ◌++◌, List, sym, ap, append_assoc}
use Rattle.rvs_tree.specs.Data.{Pairs}
use Rattle.rvs_tree.specs.Value.{Written, keys_of, merged_pairs}
use Rattle.rvs_tree.specs.Sifted.{sift, later, gathered}
use Rattle.rvs_tree.specs.TreeView.{view}
use Rattle.rvs_tree.specs.PairsView.{pairs_view}
use Rattle.rvs_tree.specs.GatheredView.{taken_view, gathered_view}
use Rattle.rvs_tree.specs.PartsView.{next_view, brings}
use Rattle.std.proofs.Common.{arith}
use Rattle.rvs_tree.proofs.Drafts.{view-whole, any-ok}
use Rattle.rvs_tree.proofs.Views.{ok_more}
use Rattle.rvs_tree.specs.declared.gathering.Gathered.{Gathered}
use Rattle.rvs_tree.proofs.Sifting.{later-same}
use Rattle.rvs_tree.proofs.Bringing.{gathered-sift, gathered-keys}
use Rattle.rvs_tree.proofs.Single.{view-pair, after-own, size-pair, size-whole}
use Rattle.rvs_tree.proofs.spread.done.Goals as goal

after : (out : Pairs) (T : List (List ℕ)) (ps : Pairs) (g : Pairs × List (List ℕ))
    (rest : List Written) → g ≡ gathered (out, T) ps →
    g.0 ++ later g.1 rest ≡ out ++ (sift T ps ++ later (keys_of ps ++ T) rest)
after out T ps g rest e =
    ap (λ h. h.0 ++ later h.1 rest) e
    ∙ ap (λ x. x ++ later (gathered (out, T) ps).1 rest) (gathered-sift out T ps)
    ∙ ap (λ x. (out ++ sift T ps) ++ x)
    (later-same (gathered (out, T) ps).1 (keys_of ps ++ T) rest (gathered-keys out T ps))
    ∙ append_assoc out (sift T ps) (later (keys_of ps ++ T) rest)

pub returns-in-Whole-clause-brought : goal.returns-in-Whole-clause-brought
returns-in-Whole-clause-brought c =
    let g = c.args.gathered in
    let rest = next_view c.args.work.now.items in
    ok_more c.with_merged.result c.with_merged.ensures (λ (x : Gathered) h.
    after (pairs_view g.pairs) (taken_view g.taken) (merged_pairs (view c.in-Whole.tree.value))
    (gathered_view x) rest
    (h ∙ ap (λ t. gathered (gathered_view g) (merged_pairs (view t))) c.deref.ensures)
    ∙ sym (ap (λ w. brings g (w ∷ rest))
    (view-whole c.args.part.now c.in-Whole.tree c.in-Whole.is)))

pub returns-in-Pair-clause-brought : goal.returns-in-Pair-clause-brought
returns-in-Pair-clause-brought c =
    let g = c.args.gathered in
    let T = taken_view g.taken in
    let rest = next_view c.args.work.now.items in
    ok_more c.with_own.result c.with_own.ensures (λ (x : Gathered) h.
    after-own (pairs_view g.pairs) T (c.as_str.result.now, view c.in-Pair.tree.value)
    (gathered_view x) rest h
    ∙ ap (λ k. pairs_view g.pairs ++ (k, view c.in-Pair.tree.value) ∷ later T rest)
    c.as_str.ensures.value
    ∙ sym (ap (λ w. brings g (w ∷ rest))
    (view-pair c.args.part.now c.in-Pair.key c.in-Pair.tree c.in-Pair.is)))

pub returns-in-Whole-clause-small : goal.returns-in-Whole-clause-small
returns-in-Whole-clause-small c = any-ok c.with_merged.result
    (omega (arith, size-whole c.args.part.now c.in-Whole.tree c.in-Whole.is))

pub returns-in-Pair-clause-small : goal.returns-in-Pair-clause-small
returns-in-Pair-clause-small c = any-ok c.with_own.result
    (omega (arith, size-pair c.args.part.now c.in-Pair.key c.in-Pair.tree c.in-Pair.is))
