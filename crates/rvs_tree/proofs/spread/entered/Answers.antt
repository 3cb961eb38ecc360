use Rattle.std.proofs.Common.{◌≡◌, ℕ, ◌∙◌, ◌++◌, List, true, false, sym, ap}
use Rattle.rvs_tree.specs.Data.{Data, is_list}
use Rattle.rvs_tree.specs.Value.{Written, keys_of, merged_pairs}
use Rattle.rvs_tree.specs.Sifted.{sift, later, kept}
use Rattle.rvs_tree.specs.Parts.{takes}
use Rattle.rvs_tree.specs.PairsView.{pairs_view}
use Rattle.rvs_tree.specs.GatheredView.{taken_view}
use Rattle.rvs_tree.specs.DraftView.{draft_view, data_of}
use Rattle.rvs_tree.specs.PartsView.{parts_view, next_view, refs_view, brings}
use Rattle.rvs_tree.specs.declared.pairs.Pairs as code
use Rattle.rvs_tree.proofs.Entering.{enter-map, enter-list}
use Rattle.rvs_tree.proofs.Drafts.{stack-brings, stack-small}
use Rattle.std.proofs.Common.{arith}
use Rattle.rvs_tree.proofs.spread.entered.Goals as goal

pub returns-then-is_list-clause-brought : goal.returns-then-is_list-clause-brought
returns-then-is_list-clause-brought c =
    let g = c.args.gathered in
    let T = taken_view g.taken in
    let ws = parts_view c.parts.result.now in
    let rest = next_view c.args.work.now.items in
    let listed : is_list (draft_view c.args.draft.now) ≡ true =
    sym c.is_list.ensures ∙ c.if-is_list.true in
    let made = rw c.in_ok-maps.ensures.0 at c.maps_in.ensures.maps in
    stack-brings c.stack.result c.in_ok-maps.gathered _ _ _ c.stack.ensures.next
    c.stack.ensures.other
    (ap (λ x. brings x (refs_view c.in_ok-maps.maps.items ++ rest)) c.in_ok-maps.ensures.1
    ∙ ap (λ x. pairs_view g.pairs ++ x)
    (ap (λ x. later T (x ++ rest)) made
    ∙ sym (enter-list ws T rest)
    ∙ sym (ap (λ ps. sift T ps ++ later (keys_of ps ++ T) rest) (c.parts.ensures.list listed))))

-- the data of a map's draft, wherever it begins
mapped : (d : Data) (T : List (List ℕ)) (ws rest : List Written) → ((l : ℕ) × (d ≡ data_of ws l)) →
    later (takes T ws) (kept T ws ++ rest)
    ≡ sift T (merged_pairs d) ++ later (keys_of (merged_pairs d) ++ T) rest
mapped d T ws rest (l, e) = sym (enter-map T ws rest l)
    ∙ sym (ap (λ x. sift T (merged_pairs x) ++ later (keys_of (merged_pairs x) ++ T) rest) e)

pub returns-clause-brought : goal.returns-clause-brought
returns-clause-brought c =
    let g = c.args.gathered in
    let T = taken_view g.taken in
    let ws = parts_view c.parts-2.result.now in
    let rest = next_view c.args.work.now.items in
    let map_is : is_list (draft_view c.args.draft.now) ≡ false =
    sym c.is_list.ensures ∙ c.if-is_list.false in
    let taken = rw c.in_ok-kept.ensures.0 at c.keep.ensures.taken in
    let kept_are = rw c.in_ok-kept.ensures.0 at c.keep.ensures.kept in
    stack-brings c.stack-2.result _ _ _ _ c.stack-2.ensures.next c.stack-2.ensures.other
    (ap (λ (ps : code.Pairs). pairs_view ps ++ later (taken_view c.in_ok-kept.taken)
    (refs_view c.in_ok-kept.kept.items ++ rest)) c.in_ok-kept.ensures.1
    ∙ ap (λ x. pairs_view g.pairs ++ x)
    (ap (λ t. later t (refs_view c.in_ok-kept.kept.items ++ rest)) taken
    ∙ ap (λ x. later (takes T ws) (x ++ rest)) kept_are
    ∙ mapped (draft_view c.args.draft.now) T ws rest (c.parts-2.ensures.map map_is)))

pub returns-then-is_list-clause-small : goal.returns-then-is_list-clause-small
returns-then-is_list-clause-small c =
    let small = rw c.in_ok-maps.ensures.0 at c.maps_in.ensures.small in
    stack-small c.stack.result _ _ _ c.stack.ensures.small
    (omega (arith, small, c.parts.ensures.size))

pub returns-clause-small : goal.returns-clause-small
returns-clause-small c =
    let small = rw c.in_ok-kept.ensures.0 at c.keep.ensures.small in
    stack-small c.stack-2.result _ _ _ c.stack-2.ensures.small
    (omega (arith, small, c.parts-2.ensures.size))
