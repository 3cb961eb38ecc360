-- How deep a value can be with something new in it, wherever it is merged.
use Rattle.std.proofs.Common.{◌≡◌, ℕ, suc, ◌≤◌, max, Bool, true, false, cond, List, [], ◌∷◌, ◌++◌}
use Rattle.std.proofs.Common.{refl, sym, ap, ◌∙◌, arith, append_assoc, append-nil}
use Rattle.std.specs.Prelude.{◌||◌, bytes_eq}
use Rattle.std.proofs.lemmas.Slice.Eq.{bytes_eq-Decides}
use Rattle.rvs_tree.specs.Data.{Data, Pairs, depth, own_pairs}
use Rattle.rvs_tree.specs.Value.{Value, Written, trees, list_value, map_value, has_key, keys_of}
use Rattle.rvs_tree.specs.Value.{resolved, explicit_keys, pairs_in, merged_pairs}
use Rattle.rvs_tree.specs.Bound.{values_depth, pairs_depth}
use Rattle.rvs_tree.specs.Sifted.{sift, later}
use Rattle.rvs_tree.specs.Shown.{Shown, at_key, keys_so_far, left_by}
use Rattle.rvs_tree.proofs.Sums.{pairs_depth-append, has_key-append, explicit_keys-push}
use Rattle.rvs_tree.proofs.Sums.{values_depth-push, map-append}
use Rattle.rvs_tree.proofs.Merging.{map-depth, list-depth}
use Rattle.rvs_tree.proofs.Views.{list_of-items_of, pairs_of-entries_of}
use Rattle.rvs_tree.proofs.Sifting.{Same, sift-append, sift-sift, pairs-later, resolved-later}
use Rattle.rvs_tree.proofs.Sifting.{nested, middle, in-more}
use Rattle.rvs_tree.proofs.Growing.{sift-less, resolved-append, last-own, merge-more, own-more}
use Rattle.rvs_tree.proofs.Growing.{or-two, or-end}

-- Whatever keys are taken, these pairs are no deeper than those, save for what is new, which is so
-- deep where they are.
abbrev pub Bounded : Shown → Pairs → Pairs → Type 0
Bounded f ps qs = (T : List (List ℕ))
    → pairs_depth (sift T qs) ≤ max (pairs_depth (sift T ps)) (f T)

-- The second value is no deeper than the first, save for what is new in it and so deep, nor is what
-- it brings where it is merged.
pub record Within (f : Shown) (n : ℕ) (d e : Data) : Type 0 where
  pub deep : depth e ≤ max (depth d) n
  pub own : Bounded f (own_pairs d) (own_pairs e)
  pub merged : Bounded f (merged_pairs d) (merged_pairs e)

-- A value is so deep, and what it brings where it is merged.
pub record Fits (f : Shown) (n : ℕ) (d : Data) : Type 0 where
  pub deep : depth d ≤ n
  pub merged : (T : List (List ℕ)) → pairs_depth (sift T (merged_pairs d)) ≤ f T

own-merged : (T : List (List ℕ)) (d : Data)
    → pairs_depth (sift T (own_pairs d)) ≤ pairs_depth (sift T (merged_pairs d))
own-merged T d = grind arith

pub fits-own : (f : Shown) (n : ℕ) (d : Data) → Fits f n d → (T : List (List ℕ))
    → pairs_depth (sift T (own_pairs d)) ≤ f T
fits-own f n d h T = omega (arith, own-merged T d, h.merged T)

-- a value that is new
pub within-new : (f : Shown) (n : ℕ) (d e : Data) → Fits f n e → Within f n d e
within-new f n d e h = grind (arith, fits-own)

trees-push : (vs : List Value) (v : Value) → trees (vs ++ v ∷ []) ≡ trees vs ++ v.tree ∷ []
trees-push vs v = map-append (λ u. u.tree) vs (v ∷ [])

pairs_in-push : (ds : List Data) (d : Data) → pairs_in (ds ++ d ∷ []) ≡ pairs_in ds ++ own_pairs d
pairs_in-push [] d = append-nil (own_pairs d)
pairs_in-push (e ∷ ds) d = simp (append_assoc, (pairs_in-push ds d))

list-pairs : (line : ℕ) (vs : List Value)
    → merged_pairs (list_value line vs).tree ≡ pairs_in (trees vs)
list-pairs line vs = ap pairs_in (list_of-items_of (trees vs))

list-brings : (line : ℕ) (vs : List Value) (v : Value)
    → merged_pairs (list_value line (vs ++ v ∷ [])).tree ≡ pairs_in (trees vs) ++ own_pairs v.tree
list-brings line vs v =
    list-pairs line (vs ++ v ∷ []) ∙ ap pairs_in (trees-push vs v) ∙ pairs_in-push (trees vs) v.tree

list-deep : (line : ℕ) (vs : List Value) → depth (list_value line vs).tree ≡ suc (values_depth vs)
list-deep line vs = ap suc (list-depth vs)

-- pairs behind others
behind : (f : Shown) (s ps qs : Pairs) → Bounded f ps qs
    → Bounded (λ T. f (keys_of s ++ T)) (s ++ ps) (s ++ qs)
behind f s ps qs h T = grind (arith, sift-append, pairs_depth-append)

along : (f : Shown) (ps qs us vs : Pairs) → ps ≡ us → qs ≡ vs → Bounded f us vs
    → Bounded f ps qs
along f ps qs us vs e g h T = grind arith

-- in a list
pub within-list : (f : Shown) (n line : ℕ) (vs : List Value) (u v : Value)
    → Within f n u.tree v.tree
    → Within (λ T. f (keys_of (pairs_in (trees vs)) ++ T)) (suc n)
    (list_value line (vs ++ u ∷ [])).tree
    (list_value line (vs ++ v ∷ [])).tree
within-list f n line vs u v h =
    let P = pairs_in (trees vs) in
    record {
      deep = omega (
        arith,
        h.deep,
        list-deep line (vs ++ u ∷ []),
        list-deep line (vs ++ v ∷ []),
        values_depth-push vs u,
        values_depth-push vs v,
      );
      own = λ T. omega arith;
      merged =
          along (λ T. f (keys_of P ++ T)) _ _ _ _ (list-brings line vs u) (list-brings line vs v)
          (behind f P (own_pairs u.tree) (own_pairs v.tree) h.own);
    }

-- a list with an item more
pub within-item : (f : Shown) (n line : ℕ) (vs : List Value) (v : Value)
    → Fits f n v.tree
    → Within (λ T. f (keys_of (pairs_in (trees vs)) ++ T)) (suc n) (list_value line vs).tree
    (list_value line (vs ++ v ∷ [])).tree
within-item f n line vs v h =
    let P = pairs_in (trees vs) in
    record {
      deep = omega (
        arith,
        h.deep,
        list-deep line vs,
        list-deep line (vs ++ v ∷ []),
        values_depth-push vs v,
      );
      own = λ T. omega arith;
      merged = along (λ T. f (keys_of P ++ T)) _ _ _ _ (list-pairs line vs ∙ sym (append-nil P))
          (list-brings line vs v)
          (behind f P [] (own_pairs v.tree) (λ T. omega (arith, fits-own f n v.tree h T)));
    }

abbrev pairs : List Written → Pairs
pairs ws = resolved (explicit_keys ws) [] ws

map-deep : (line : ℕ) (ws : List Written)
    → depth (map_value line ws).tree ≡ suc (pairs_depth (pairs ws))
map-deep line ws = ap suc (map-depth ws)

-- maps by their pairs
map-within : (f : Shown) (n line : ℕ) (us ws : List Written)
    → pairs_depth (pairs ws) ≤ max (pairs_depth (pairs us)) n → Bounded f (pairs us) (pairs ws)
    → Within f (suc n) (map_value line us).tree (map_value line ws).tree
map-within f n line us ws d h = record {
  deep = omega (arith, d, map-deep line us, map-deep line ws);
  own = along f _ _ _ _ (pairs_of-entries_of (pairs us)) (pairs_of-entries_of (pairs ws)) h;
  merged = along f _ _ _ _ (pairs_of-entries_of (pairs us)) (pairs_of-entries_of (pairs ws)) h;
}

-- with a key of its own at the end
own-keys : (ws : List Written) (w : Written) → w.merges ≡ false
    → explicit_keys (ws ++ w ∷ []) ≡ explicit_keys ws ++ w.key ∷ []
own-keys ws w e = grind (arith, explicit_keys-push)

own-pairs : (ws : List Written) (w : Written) → w.merges ≡ false
    → pairs (ws ++ w ∷ [])
    ≡ resolved (explicit_keys ws ++ w.key ∷ []) [] ws ++ (w.key, w.value.tree) ∷ []
own-pairs ws w e = simp (own-keys, resolved-append, last-own)

one-by : (b : Bool) (n : ℕ) (T : List (List ℕ)) (k : List ℕ) (d e : Data)
    → depth e ≤ max (depth d) n
    → pairs_depth (cond b (sift T []) ((k, e) ∷ sift (k ∷ T) []))
    ≤ max (pairs_depth (cond b (sift T []) ((k, d) ∷ sift (k ∷ T) []))) (cond b 0 n)
one-by b n T k d e h = grind arith

one : (n : ℕ) (k : List ℕ) (d e : Data) → depth e ≤ max (depth d) n
    → Bounded (at_key k n) ((k, d) ∷ []) ((k, e) ∷ [])
one n k d e h T = one-by (has_key k T) n T k d e h

pub at-behind-by : (b c : Bool) (n : ℕ) → (c ≡ true → b ≡ true) → cond b 0 n ≤ cond c 0 n
at-behind-by b c n h = grind arith

at-behind : (k : List ℕ) (n : ℕ) (X T : List (List ℕ)) → at_key k n (X ++ T) ≤ at_key k n T
at-behind k n X T = at-behind-by (has_key k (X ++ T)) (has_key k T) n (λ e. in-more k X T e)

bounded-less : (f g : Shown) (ps qs : Pairs) → ((T : List (List ℕ)) → f T ≤ g T)
    → Bounded f ps qs → Bounded g ps qs
bounded-less f g ps qs l h T = omega (arith, l T, h T)

-- in an entry that isn't merged
pub within-entry : (f : Shown) (n line : ℕ) (ws : List Written) (u w : Written)
    → u.merges ≡ false → w.merges ≡ false → u.key ≡ w.key → Within f n u.value.tree w.value.tree
    → Within (at_key w.key n) (suc n) (map_value line (ws ++ u ∷ [])).tree
    (map_value line (ws ++ w ∷ [])).tree
within-entry f n line ws u w e g k h =
    let s = resolved (explicit_keys ws ++ w.key ∷ []) [] ws in
    let before : pairs (ws ++ u ∷ []) ≡ s ++ (w.key, u.value.tree) ∷ [] =
    own-pairs ws u e
    ∙ ap (λ j. resolved (explicit_keys ws ++ j ∷ []) [] ws ++ (j, u.value.tree) ∷ []) k in
    let after = own-pairs ws w g in
    map-within (at_key w.key n) n line (ws ++ u ∷ []) (ws ++ w ∷ [])
    (omega (
      arith,
      h.deep,
      ap pairs_depth before,
      ap pairs_depth after,
      pairs_depth-append s ((w.key, u.value.tree) ∷ []),
      pairs_depth-append s ((w.key, w.value.tree) ∷ []),
    ))
    (along (at_key w.key n) _ _ _ _ before after
    (bounded-less (λ T. at_key w.key n (keys_of s ++ T)) (at_key w.key n) _ _
    (at-behind w.key n (keys_of s))
    (behind (at_key w.key n) s _ _ (one n w.key u.value.tree w.value.tree h.deep))))

-- in an entry that is merged
pub within-merge : (f : Shown) (n line : ℕ) (ws : List Written) (u w : Written)
    → u.merges ≡ true → w.merges ≡ true → Within f n u.value.tree w.value.tree
    → Within (left_by ws f) (suc (f (keys_so_far ws))) (map_value line (ws ++ u ∷ [])).tree
    (map_value line (ws ++ w ∷ [])).tree
within-merge f n line ws u w e g h =
    let s = pairs ws in
    let K = keys_so_far ws in
    map-within (left_by ws f) (f K) line (ws ++ u ∷ []) (ws ++ w ∷ [])
    (omega (
      arith,
      h.merged K,
      ap pairs_depth (merge-more ws u e),
      ap pairs_depth (merge-more ws w g),
      pairs_depth-append s (sift K (merged_pairs u.value.tree)),
      pairs_depth-append s (sift K (merged_pairs w.value.tree)),
    ))
    (along (left_by ws f) _ _ _ _ (merge-more ws u e) (merge-more ws w g)
    (behind (λ T. f (T ++ K)) s _ _ (λ T.
    omega (
      arith,
      h.merged (T ++ K),
      ap pairs_depth (sift-sift T K (merged_pairs u.value.tree)),
      ap pairs_depth (sift-sift T K (merged_pairs w.value.tree)),
    ))))

-- a map with a merge more
pub within-merge-more : (f : Shown) (n line : ℕ) (ws : List Written) (w : Written)
    → w.merges ≡ true → Fits f n w.value.tree
    → Within (left_by ws f) (suc (f (keys_so_far ws))) (map_value line ws).tree
    (map_value line (ws ++ w ∷ [])).tree
within-merge-more f n line ws w e h =
    let s = pairs ws in
    let K = keys_so_far ws in
    map-within (left_by ws f) (f K) line ws (ws ++ w ∷ [])
    (omega (
      arith,
      h.merged K,
      ap pairs_depth (merge-more ws w e),
      pairs_depth-append s (sift K (merged_pairs w.value.tree)),
    ))
    (along (left_by ws f) _ _ _ _ (sym (append-nil s)) (merge-more ws w e)
    (behind (λ T. f (T ++ K)) s [] _ (λ T.
    omega (arith, h.merged (T ++ K), ap pairs_depth (sift-sift T K (merged_pairs w.value.tree))))))

not-true : (b : Bool) → (b ≡ true → ⊥) → b ≡ false
not-true b n = grind arith

-- Where an own key is new, what was there is what was there without it.
other : (ws : List Written) (k j : List ℕ) → has_key k (explicit_keys ws) ≡ false
    → has_key j (explicit_keys ws) ≡ true → bytes_eq k j ≡ false
other ws k j new there = grind (arith, not-true, bytes_eq-Decides)

dropped : (ws : List Written) (k : List ℕ) (T : List (List ℕ))
    → has_key k (explicit_keys ws) ≡ false
    → sift T (resolved (explicit_keys ws ++ k ∷ []) [] ws) ≡ sift (k ∷ T) (pairs ws)
dropped ws k T new =
    let E = explicit_keys ws in
    let F = E ++ k ∷ [] in
    let has : Same F (k ∷ E) = λ j. has_key-append j E (k ∷ [])
    ∙ or-two (has_key j E) (has_key j (k ∷ [])) ∙ sym (has_key-append j (k ∷ []) E) in
    let covers : (j : List ℕ) → has_key j E ≡ true → has_key j F ≡ true =
    λ j i. has j ∙ ap (λ b. bytes_eq k j || b) i ∙ or-end (bytes_eq k j) in
    let old : resolved F [] ws ≡ later F ws =
    resolved-later F ws [] F covers (λ j. ap (has_key j) (sym (append-nil F))) in
    let same : Same (T ++ F) ((k ∷ T) ++ E) = λ j.
    has_key-append j T F ∙ ap (λ b. has_key j T || b) (has j) ∙ sym (has_key-append j T (k ∷ E))
    ∙ middle T k E j in
    ap (sift T) old ∙ nested ws T F (T ++ F) T covers (λ j. refl) (λ j i. refl)
    ∙ sym (ap (sift (k ∷ T)) (pairs-later ws) ∙ nested ws (k ∷ T) E (T ++ F) T (λ j i. i) same
    (λ j i. ap (λ b. b || has_key j T) (other ws k j new i)))

pub less-with : (k : List ℕ) (T : List (List ℕ)) (ps : Pairs)
    → pairs_depth (sift (k ∷ T) ps) ≤ pairs_depth (sift T ps)
less-with k T ps =
    omega (arith, sift-less (k ∷ []) (sift T ps), ap pairs_depth (sift-sift (k ∷ []) T ps))

one-less-by : (b : Bool) (n : ℕ) (T : List (List ℕ)) (k : List ℕ) (d : Data) → depth d ≤ n
    → pairs_depth (cond b (sift T []) ((k, d) ∷ sift (k ∷ T) [])) ≤ cond b 0 n
one-less-by b n T k d h = grind arith

-- a map with a new key of its own more
pub within-own-more : (n line : ℕ) (ws : List Written) (w : Written) → w.merges ≡ false
    → has_key w.key (explicit_keys ws) ≡ false → depth w.value.tree ≤ n
    → Within (at_key w.key n) (suc n) (map_value line ws).tree (map_value line (ws ++ w ∷ [])).tree
within-own-more n line ws w e new h =
    let s = resolved (explicit_keys ws ++ w.key ∷ []) [] ws in
    let p : Pairs = (w.key, w.value.tree) ∷ [] in
    let small : (T : List (List ℕ)) → pairs_depth (sift T p) ≤ at_key w.key n T =
    λ T. one-less-by (has_key w.key T) n T w.key w.value.tree h in
    let less : (T : List (List ℕ)) → pairs_depth (sift T s) ≤ pairs_depth (sift T (pairs ws)) =
    λ T. omega (arith, ap pairs_depth (dropped ws w.key T new), less-with w.key T (pairs ws)) in
    map-within (at_key w.key n) n line ws (ws ++ w ∷ [])
    (omega (arith, (own-more ws w e).1, h))
    (λ T.
    omega (
      arith,
      small (keys_of s ++ T),
      at-behind w.key n (keys_of s) T,
      less T,
      ap (λ x. pairs_depth (sift T x)) (own-pairs ws w e),
      ap pairs_depth (sift-append T s p),
      pairs_depth-append (sift T s) (sift (keys_of s ++ T) p),
    ))
