-- Entries with no more than their merges need bring the same.
use Rattle.std.proofs.Common.{◌≡◌, ℕ, Bool, true, false, cond, List, [], ◌∷◌, ◌++◌, map, refl, sym}
use Rattle.std.proofs.Common.{ap, ◌∙◌, arith, rules}
use Rattle.std.specs.Prelude.{◌&&◌}
use Rattle.rvs_tree.specs.Data.{Data, sequence, mapping, Pairs, items_of, entries_of}
use Rattle.rvs_tree.specs.Data.{own_pairs, line_of, is_list}
use Rattle.rvs_tree.specs.Value.{Value, Written, trees, list_value, map_value, added, resolved}
use Rattle.rvs_tree.specs.Value.{explicit_keys, merged_pairs, is_map_or_empty, are_maps_or_empty}
use Rattle.rvs_tree.specs.Value.{is_mergeable}
use Rattle.rvs_tree.specs.DraftView.{own_entry, merging_entry, merged_trees, data_of, draft_view}
use Rattle.rvs_tree.specs.DraftView.{part_view}
use Rattle.rvs_tree.specs.Bare.{bares}
use Rattle.rvs_tree.specs.declared.draft.Draft.{Draft}
use Rattle.rvs_tree.proofs.Views.{pairs_of-entries_of}
use Rattle.rvs_tree.proofs.Drafts.{draft-map, list-is, view-list, view-map}

explicit-by : (m : Bool) (w : Written) (ws us : List Written) → explicit_keys us ≡ explicit_keys ws
    →
    explicit_keys (cond m (merging_entry w.value.tree) (own_entry w.key w.value.tree) ∷ us)
    ≡ cond m [] (w.key ∷ []) ++ explicit_keys ws
explicit-by m w ws us e = grind arith

explicit-bare : (ws : List Written) → explicit_keys (bares ws) ≡ explicit_keys ws
explicit-bare [] = refl
explicit-bare (w ∷ ws) = explicit-by w.merges w ws (bares ws) (explicit-bare ws)

resolved-by : (m : Bool) (E : List (List ℕ)) (s : Pairs) (w : Written) (ws us : List Written)
    → ((t : Pairs) → resolved E t us ≡ resolved E t ws) →
    resolved E s (cond m (merging_entry w.value.tree) (own_entry w.key w.value.tree) ∷ us) ≡ cond m
    (resolved E (added E s (merged_pairs w.value.tree)) ws)
    (resolved E (s ++ (w.key, w.value.tree) ∷ []) ws)
resolved-by m E s w ws us f = grind arith

resolved-bare : (E : List (List ℕ)) (ws : List Written) (s : Pairs)
    → resolved E s (bares ws) ≡ resolved E s ws
resolved-bare E [] s = refl
resolved-bare E (w ∷ ws) s = resolved-by w.merges E s w ws (bares ws) (λ t. resolved-bare E ws t)

-- a map of bare entries
pub bare-map : (line : ℕ) (ws : List Written) → data_of (bares ws) line ≡ (map_value line ws).tree
bare-map line ws = simp (resolved-bare, explicit-bare)

abbrev pub merging : List Value → List Written
merging vs = map (λ v. merging_entry v.tree) vs

pub merging-trees : (vs : List Value) → merged_trees (merging vs) ≡ trees vs
merging-trees [] = refl
merging-trees (v ∷ vs) = ap (λ ds. v.tree ∷ ds) (merging-trees vs)

-- a list of values that may be merged
pub bare-list : (line : ℕ) (vs : List Value)
    → sequence (items_of (merged_trees (merging vs))) line ≡ (list_value line vs).tree
bare-list line vs = ap (λ ds. sequence (items_of ds) line) (merging-trees vs)

again : (ws : List Written) (l : ℕ) (d : Data) → d ≡ data_of ws l
    → mapping (entries_of (own_pairs d)) (line_of d) ≡ d
again ws l d e = grind (arith, pairs_of-entries_of)

-- a map's draft from its pairs and its line
pub rebuilt : (d : Draft) → is_list (draft_view d) ≡ false
    → mapping (entries_of (own_pairs (draft_view d))) (line_of (draft_view d)) ≡ draft_view d
rebuilt d h = again (map part_view d.parts.items) d.line (draft_view d) (draft-map d h)

line-by : (b : Bool) (d : Draft) → d.is_list ≡ b → d.line ≡ line_of (draft_view d)
line-by b d e = search (rules, view-list, view-map)

pub line-is : (d : Draft) → d.line ≡ line_of (draft_view d)
line-is d = line-by d.is_list d refl

pub draft-items : (d : Draft) → is_list (draft_view d) ≡ true
    → draft_view d ≡ sequence (items_of (merged_trees (map part_view d.parts.items))) d.line
draft-items d h = view-list d (list-is d ∙ h)

-- the items of a list, one after another
trees-by : (m : Bool) (d : Data) (ds : List Data) → cond m (d ∷ ds) ds ≡ cond m (d ∷ []) [] ++ ds
trees-by m d ds = grind arith

pub trees-step : (w : Written) (ws : List Written)
    → merged_trees (w ∷ ws) ≡ merged_trees (w ∷ []) ++ merged_trees ws
trees-step w ws = trees-by w.merges w.value.tree (merged_trees ws)

and-parts : (a b : Bool) → (a && b) ≡ true → (a ≡ true) × (b ≡ true)
and-parts a b h = grind arith

maps-by : (m : Bool) (d : Data) (ds : List Data) → are_maps_or_empty (items_of (cond m (d ∷ ds) ds))
    ≡ true → (are_maps_or_empty (items_of (cond m (d ∷ []) [])) ≡ true)
    × (are_maps_or_empty (items_of ds) ≡ true)
maps-by m d ds h = grind arith

-- all are maps or empty: the first, and the others
pub maps-step : (w : Written) (ws : List Written)
    → are_maps_or_empty (items_of (merged_trees (w ∷ ws))) ≡ true →
    (are_maps_or_empty (items_of (merged_trees (w ∷ []))) ≡ true)
    × (are_maps_or_empty (items_of (merged_trees ws)) ≡ true)
maps-step w ws h = maps-by w.merges w.value.tree (merged_trees ws) h

no-list : (d : Data) → is_map_or_empty d ≡ true → is_list d ≡ false
no-list d h = grind arith

-- an item that is a map or empty is no list
pub item-no-list : (w : Written) (d : Data) → w ≡ merging_entry d
    → are_maps_or_empty (items_of (merged_trees (w ∷ []))) ≡ true → is_list d ≡ false
item-no-list w d e h = grind (arith, no-list, and-parts)

pub mergeable-items : (d : Data) (ws : List Written) (l : ℕ)
    → d ≡ sequence (items_of (merged_trees ws)) l → is_mergeable d ≡ true
    → are_maps_or_empty (items_of (merged_trees ws)) ≡ true
mergeable-items d ws l e h = sym (ap is_mergeable e) ∙ h
