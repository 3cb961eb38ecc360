-- Entering a draft: its entries in its place.
use Rattle.std.proofs.Common.{◌≡◌, ℕ, Bool, true, cond, List, [], ◌∷◌, ◌++◌, refl, sym, ap}
use Rattle.std.proofs.Common.{◌∙◌, append_assoc, append-nil, arith, rules}
use Rattle.std.specs.Prelude.{◌||◌, ◌&&◌, bytes_eq}
use Rattle.rvs_tree.specs.Data.{Data, Pairs, is_map}
use Rattle.rvs_tree.specs.Value.{Written, has_key, keys_of, resolved, explicit_keys, merged_pairs}
use Rattle.rvs_tree.specs.Value.{pairs_in}
use Rattle.rvs_tree.specs.Sifted.{sift, later, kept}
use Rattle.rvs_tree.specs.Parts.{takes, map_entries}
use Rattle.rvs_tree.specs.DraftView.{data_of, merged_trees}
use Rattle.rvs_tree.proofs.Sums.{map-append, has_key-append}
use Rattle.rvs_tree.proofs.Views.{pairs_of-entries_of}
use Rattle.rvs_tree.proofs.Sifting.{Same, sift-append, later-same, pairs-later, middle}
use Rattle.rvs_tree.proofs.Bringing.{enters}
use Rattle.rvs_tree.proofs.Sifting.{taken-again}

in-front : (j : List ℕ) (T xs : List (List ℕ)) → has_key j T ≡ true → has_key j (T ++ xs) ≡ true
in-front j T xs h = has_key-append j T xs ∙ ap (λ b. b || has_key j xs) h

takes-by : (m b : Bool) (T E : List (List ℕ)) (w : Written) (ws : List Written) (k : List ℕ)
    → has_key w.key T ≡ b →
    has_key k (takes T ws) ≡ has_key k (T ++ explicit_keys ws)
    → has_key k (takes (w.key ∷ T) ws) ≡ has_key k ((w.key ∷ T) ++ explicit_keys ws) →
    has_key k (cond m (takes T ws) (cond b (takes T ws) (takes (w.key ∷ T) ws)))
    ≡ has_key k (T ++ (cond m [] (w.key ∷ []) ++ explicit_keys ws))
takes-by m b T E w ws k e f g = search (rules, middle, taken-again, in-front)

pub takes-same : (ws : List Written) (T : List (List ℕ)) → Same (takes T ws) (T ++ explicit_keys ws)
takes-same [] T k = ap (has_key k) (sym (append-nil T))
takes-same (w ∷ ws) T k = takes-by w.merges (has_key w.key T) T [] w ws k refl (takes-same ws T k)
    (takes-same ws (w.key ∷ T) k)

pub enter-map : (T : List (List ℕ)) (ws rest : List Written) (line : ℕ) →
    sift T (merged_pairs (data_of ws line))
    ++ later (keys_of (merged_pairs (data_of ws line)) ++ T) rest
    ≡ later (takes T ws) (kept T ws ++ rest)
enter-map T ws rest line = grind (arith, pairs_of-entries_of, enters, later-same, takes-same)

-- the items of a list, map by map
swap : (xs ys T : List (List ℕ)) → Same ((xs ++ ys) ++ T) (ys ++ (xs ++ T))
swap [] ys T k = refl
swap (x ∷ xs) ys T k = ap (λ b. bytes_eq x k || b) (swap xs ys T k) ∙ sym (middle ys x (xs ++ T) k)

add-list : (T : List (List ℕ)) (ps qs : Pairs) (rest : List Written) (r : Pairs) →
    sift (keys_of ps ++ T) qs ++ later (keys_of qs ++ (keys_of ps ++ T)) rest ≡ r →
    sift T (ps ++ qs) ++ later (keys_of (ps ++ qs) ++ T) rest ≡ sift T ps ++ r
add-list T ps qs rest r f = grind (arith, sift-append, append_assoc, map-append, later-same, swap)

enter-item : (m : Bool) (T : List (List ℕ)) (w : Written) (ws rest : List Written) (d : Data)
    → w.merges ≡ m → w.value.tree ≡ d →
    ((U : List (List ℕ)) → sift U (pairs_in (merged_trees ws))
    ++ later (keys_of (pairs_in (merged_trees ws)) ++ U) rest
    ≡ later U (map_entries ws ++ rest)) →
    sift T (pairs_in (cond m (d ∷ merged_trees ws) (merged_trees ws)))
    ++ later (keys_of (pairs_in (cond m (d ∷ merged_trees ws) (merged_trees ws))) ++ T) rest
    ≡ later T (cond (m && is_map d) (w ∷ map_entries ws) (map_entries ws) ++ rest)
enter-item m T w ws rest d e f next = search (rules, add-list)

pub enter-list : (ws : List Written) (T : List (List ℕ)) (rest : List Written) →
    sift T (pairs_in (merged_trees ws)) ++ later (keys_of (pairs_in (merged_trees ws)) ++ T) rest
    ≡ later T (map_entries ws ++ rest)
enter-list [] T rest = refl
enter-list (w ∷ ws) T rest =
    enter-item w.merges T w ws rest w.value.tree refl refl (λ U. enter-list ws U rest)

takes-step-by : (m b : Bool) (T : List (List ℕ)) (w : Written) (ws : List Written) →
    cond m (takes T ws) (cond b (takes T ws) (takes (w.key ∷ T) ws))
    ≡ takes (cond m T (cond b T (w.key ∷ T))) ws
takes-step-by m b T w ws = grind arith

pub takes-step : (T : List (List ℕ)) (w : Written) (ws : List Written)
    → takes T (w ∷ ws) ≡ takes (takes T (w ∷ [])) ws
takes-step T w ws = takes-step-by w.merges (has_key w.key T) T w ws

kept-step-by : (m b : Bool) (T : List (List ℕ)) (w : Written) (ws : List Written) →
    cond m (w ∷ kept T ws) (cond b (kept T ws) (w ∷ kept (w.key ∷ T) ws))
    ≡ cond m (w ∷ []) (cond b [] (w ∷ [])) ++ kept (cond m T (cond b T (w.key ∷ T))) ws
kept-step-by m b T w ws = grind arith

pub kept-step : (T : List (List ℕ)) (w : Written) (ws : List Written)
    → kept T (w ∷ ws) ≡ kept T (w ∷ []) ++ kept (takes T (w ∷ [])) ws
kept-step T w ws = kept-step-by w.merges (has_key w.key T) T w ws

pub kept-merging : (T : List (List ℕ)) (w : Written) → w.merges ≡ true → kept T (w ∷ []) ≡ w ∷ []
kept-merging T w e = ap (λ b. cond b (w ∷ []) (cond (has_key w.key T) [] (w ∷ []))) e

map-entries-by : (b : Bool) (w : Written) (ws : List Written)
    → cond b (w ∷ map_entries ws) (map_entries ws) ≡ cond b (w ∷ []) [] ++ map_entries ws
map-entries-by b w ws = grind arith

pub map-entries-step : (w : Written) (ws : List Written)
    → map_entries (w ∷ ws) ≡ map_entries (w ∷ []) ++ map_entries ws
map-entries-step w ws = map-entries-by (w.merges && is_map w.value.tree) w ws

-- the pairs of a map, where all its own keys are taken at the beginning
pub whole-map : (ws : List Written) (taken : List (List ℕ)) → taken ≡ takes [] ws
    → later taken ws ≡ resolved (explicit_keys ws) [] ws
whole-map ws taken e = grind (arith, later-same, takes-same, pairs-later)
