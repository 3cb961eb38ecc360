-- How deep values are at their keys.
use Rattle.std.proofs.Common.{◌≡◌, ℕ, ◌≤◌, max, min, Bool, true, cond, List, [], ◌∷◌, ◌++◌}
use Rattle.std.proofs.Common.{refl, sym, ap, ◌∙◌, arith, append-nil, zero, suc, ◌<◌}
use Rattle.std.proofs.Common.{map, drop, length, get_or, string_bytes, Global, rules}
use Rattle.std.specs.Prelude.{String, bytes_eq, ◌&&◌}
use Rattle.std.specs.List.{zip}
use Rattle.std.specs.declared.rc.Rc.{Rc}
use Rattle.std.specs.Prelude.{◌||◌}
use Rattle.rvs_tree.specs.Data.{Data, Pairs, depth}
use Rattle.rvs_tree.specs.Value.{Written, has_key, keys_of, explicit_keys, resolved, merged_pairs}
use Rattle.rvs_tree.specs.Bound.{pairs_depth}
use Rattle.rvs_tree.specs.Sifted.{sift, gathered, merged_keys}
use Rattle.rvs_tree.specs.TreeView.{rc_view}
use Rattle.rvs_tree.specs.declared.tree.Tree.{Tree}
use Rattle.rvs_tree.specs.Shown.{shown_by, at_key, keys_so_far, key_depths, visible}
use Rattle.rvs_tree.specs.ShownView.{depths_view}
use Rattle.rvs_tree.specs.declared.key_depth.KeyDepth.{KeyDepth}
use Rattle.rvs_tree.proofs.Sums.{map-append, has_key-append}
use Rattle.rvs_tree.proofs.Sifting.{sift-same, sift-sift}
use Rattle.rvs_tree.proofs.Bringing.{gathered-sift, all-keys, kept-merged}
use Rattle.rvs_tree.proofs.Sifting.{in-more}
use Rattle.rvs_tree.proofs.Within.{less-with}

pub visible-push : (ps : List (List ℕ × ℕ)) (p : List ℕ × ℕ) (T : List (List ℕ))
    → visible (ps ++ p ∷ []) T ≡ max (visible ps T) (at_key p.0 p.1 T)
visible-push [] p T = omega arith
visible-push (q ∷ ps) p T = omega (arith, visible-push ps p T)

sifted-by : (b : Bool) (T : List (List ℕ)) (p : List ℕ × Data) (ps : Pairs) (n : ℕ)
    → min (pairs_depth (sift T ps)) 33 ≤ n
    → min (pairs_depth (cond b (sift T ps) (p ∷ sift (p.0 ∷ T) ps))) 33
    ≤ max (cond b 0 (min (depth p.1) 33)) n
sifted-by b T p ps n h = search (rules, less-with)

sifted-less : (T : List (List ℕ)) (ps : Pairs)
    → min (pairs_depth (sift T ps)) 33 ≤ visible (key_depths ps) T
sifted-less T [] = omega arith
sifted-less T (p ∷ ps) = grind (arith, sifted-by, (sifted-less T ps))

-- what a merged value brings, the first of each key
pub brought-visible : (d : Data) (qs : Pairs) → qs ≡ (gathered ([], []) (merged_pairs d)).0
    → (T : List (List ℕ)) → min (shown_by d T) 33 ≤ visible (key_depths qs) T
brought-visible d qs e T =
    let same : sift T qs ≡ sift T (merged_pairs d) =
    ap (sift T) (e ∙ gathered-sift [] [] (merged_pairs d))
    ∙ sift-sift T [] (merged_pairs d)
    ∙ sift-same (T ++ []) T (merged_pairs d) (λ k. ap (has_key k) (append-nil T)) in
    omega (arith, sifted-less T qs, ap pairs_depth same)

pub push-visible : (ds es : List KeyDepth) (d : KeyDepth) (U : List (List ℕ)) → es ≡ ds ++ d ∷ []
    → visible (depths_view es) U ≡ max (visible (depths_view ds) U)
    (at_key (string_bytes d.key) d.depth U)
push-visible ds es d U e = grind (arith, map-append, string_bytes, visible-push)

or-three : (a b c : Bool) → ((a || b) || c) ≡ (a || (b || c))
or-three a b c = grind arith

keys-drop : (ks : List (String Global)) (vs : List (Rc Tree Global)) (i : ℕ) (d : String Global)
    → i < length ks → i < length vs
    → keys_of (zip (map string_bytes (drop i ks)) (map rc_view (drop i vs)))
    ≡ string_bytes (get_or ks i d)
    ∷ keys_of (zip (map string_bytes (drop (suc i) ks)) (map rc_view (drop (suc i) vs)))
keys-drop [] vs i d h l = absurd (omega arith)
keys-drop (k ∷ ks) [] i d h l = absurd (omega arith)
keys-drop (k ∷ ks) (v ∷ vs) zero d h l = refl
keys-drop (k ∷ ks) (v ∷ vs) (suc i) d h l = keys-drop ks vs i d (omega arith) (omega arith)

-- the next key is there, or among those that are left
pub key-next : (k : List ℕ) (ks : List (String Global)) (vs : List (Rc Tree Global)) (i : ℕ)
    (d : String Global) (old new : Bool) → i < length ks → i < length vs → d ≡ get_or ks i d
    → new ≡ (old || bytes_eq (string_bytes d) k)
    → (new || has_key k (keys_of
    (zip (map string_bytes (drop (suc i) ks)) (map rc_view (drop (suc i) vs)))))
    ≡ (old || has_key k (keys_of (zip (map string_bytes (drop i ks)) (map rc_view (drop i vs)))))
key-next k ks vs i d old new h l is e = grind (arith, string_bytes, or-three, keys-drop)

pub so-far-merged : (ws : List Written) (k : List ℕ) → has_key k (merged_keys ws) ≡ true
    → has_key k (keys_so_far ws) ≡ true
so-far-merged ws k h =
    let E = explicit_keys ws in
    let R = keys_of (resolved E [] ws) in
    in-more k E R (sym (ap (has_key k) (append-nil R)) ∙ all-keys [] ws k
    ∙ ap (λ m. has_key k (m ++ E)) (kept-merged [] ws) ∙ has_key-append k (merged_keys ws) E
    ∙ ap (λ b. b || has_key k E) h)

merges-by : (m : Bool) (k : List ℕ) (ks : List (List ℕ))
    → has_key k (cond m ks []) ≡ (m && has_key k ks)
merges-by m k ks = grind arith

or-last : (a x c : Bool) → ((a || x) || c) ≡ ((a || c) || x)
or-last a x c = grind arith

pub merged-push : (k : List ℕ) (ws : List Written) (w : Written)
    → has_key k (merged_keys (ws ++ w ∷ []))
    ≡ (has_key k (merged_keys ws) || (w.merges && has_key k (keys_of (merged_pairs w.value.tree))))
merged-push k [] w = merges-by w.merges k (keys_of (merged_pairs w.value.tree))
merged-push k (u ∷ ws) w = simp (has_key-append, or-last, (merged-push k ws w))

pub or-from : (a b c : Bool) → (a ≡ true → b ≡ true) → (a || c) ≡ true → (b || c) ≡ true
or-from a b c h e = grind arith
