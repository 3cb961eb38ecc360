-- An explicit key keeps its value.
use Rattle.std.proofs.Common.{◌≡◌, ℕ, Bool, true, false, cond, List, [], ◌∷◌, ◌++◌, Some, None}
use Rattle.std.proofs.Common.{refl, ap, ◌∙◌, append_assoc, arith, rules}
use Rattle.std.specs.Prelude.{◌||◌, bytes_eq}
use Rattle.std.proofs.lemmas.Slice.Eq.{bytes_eq-Decides}
use Rattle.rvs_tree.specs.Data.{Data, Pairs, value_among, entries_of, pairs_of}
use Rattle.rvs_tree.specs.Value.{Written, has_key, keys_of, added, resolved, explicit_keys}
use Rattle.rvs_tree.specs.Value.{merged_pairs}
use Rattle.rvs_tree.specs.OwnKeys.{OwnKeysStay}
use Rattle.rvs_tree.proofs.Sums.{has_key-append}

same : (k : List ℕ) → bytes_eq k k ≡ true
same k = (bytes_eq-Decides k k).1 refl

among-by : (b : Bool) (x v : Data) (k : List ℕ) (ps qs : Pairs)
    → (value_among k ps ≡ Some v → value_among k (ps ++ qs) ≡ Some v)
    → cond b (Some x) (value_among k ps) ≡ Some v
    → cond b (Some x) (value_among k (ps ++ qs)) ≡ Some v
among-by b x v k ps qs f h = grind arith

among-more : (k : List ℕ) (v : Data) (ps qs : Pairs) → value_among k ps ≡ Some v
    → value_among k (ps ++ qs) ≡ Some v
among-more k v [] qs h = cc
among-more k v (p ∷ ps) qs h = among-by (bytes_eq p.0 k) p.1 v k ps qs (among-more k v ps qs) h

none-by : (b : Bool) (x : Data) (k : List ℕ) (ps qs : Pairs)
    → (value_among k ps ≡ None → value_among k (ps ++ qs) ≡ value_among k qs)
    → cond b (Some x) (value_among k ps) ≡ None
    → cond b (Some x) (value_among k (ps ++ qs)) ≡ value_among k qs
none-by b x k ps qs f h = grind arith

among-none : (k : List ℕ) (ps qs : Pairs) → value_among k ps ≡ None
    → value_among k (ps ++ qs) ≡ value_among k qs
among-none k [] qs h = refl
among-none k (p ∷ ps) qs h = none-by (bytes_eq p.0 k) p.1 k ps qs (among-none k ps qs) h

-- a value that is there stays
added-stay-by : (b : Bool) (E : List (List ℕ)) (k : List ℕ) (v : Data) (s : Pairs)
    (p : List ℕ × Data) (ps : Pairs) → value_among k (added E s ps) ≡ Some v → value_among k
    (added E (s ++ p ∷ []) ps) ≡ Some v →
    value_among k (cond b (added E s ps) (added E (s ++ p ∷ []) ps)) ≡ Some v
added-stay-by b E k v s p ps f g = grind arith

added-stay : (E : List (List ℕ)) (k : List ℕ) (v : Data) (s ps : Pairs) → value_among k s ≡ Some v
    → value_among k (added E s ps) ≡ Some v
added-stay E k v s [] h = h
added-stay E k v s (p ∷ ps) h =
    added-stay-by (has_key p.0 E || has_key p.0 (keys_of s)) E k v s p ps (added-stay E k v s ps h)
    (added-stay E k v (s ++ p ∷ []) ps (among-more k v s (p ∷ []) h))

resolved-stay-by : (b : Bool) (E : List (List ℕ)) (k : List ℕ) (v : Data) (s : Pairs) (w : Written)
    (ws : List Written) → value_among k (resolved E (added E s (merged_pairs w.value.tree)) ws)
    ≡ Some v →
    value_among k (resolved E (s ++ (w.key, w.value.tree) ∷ []) ws) ≡ Some v →
    value_among k (cond b (resolved E (added E s (merged_pairs w.value.tree)) ws)
    (resolved E (s ++ (w.key, w.value.tree) ∷ []) ws)) ≡ Some v
resolved-stay-by b E k v s w ws f g = grind arith

resolved-stay : (E : List (List ℕ)) (k : List ℕ) (v : Data) (s : Pairs) (ws : List Written)
    → value_among k s ≡ Some v → value_among k (resolved E s ws) ≡ Some v
resolved-stay E k v s [] h = h
resolved-stay E k v s (w ∷ ws) h =
    resolved-stay-by w.merges E k v s w ws (resolved-stay E k v
    (added E s (merged_pairs w.value.tree)) ws
    (added-stay E k v s (merged_pairs w.value.tree) h))
    (resolved-stay E k v (s ++ (w.key, w.value.tree) ∷ []) ws (among-more k v s _ h))

-- what merges bring has no explicit key
or-left : (a b : Bool) → a ≡ true → (a || b) ≡ true
or-left a b h = grind arith

or-both : (a b : Bool) → (a || b) ≡ false → (a ≡ false) × (b ≡ false)
or-both a b h = grind arith

added-none-by : (b : Bool) (E : List (List ℕ)) (k : List ℕ) (s : Pairs) (p : List ℕ × Data)
    (ps : Pairs) → value_among k (added E s ps) ≡ None
    → (b ≡ false → value_among k (added E (s ++ p ∷ []) ps) ≡ None) →
    value_among k (cond b (added E s ps) (added E (s ++ p ∷ []) ps)) ≡ None
added-none-by b E k s p ps f g = grind arith

other-by : (b : Bool) (E : List (List ℕ)) (k l : List ℕ) → (b ≡ true → has_key l E ≡ has_key k E)
    → has_key k E ≡ true → has_key l E ≡ false → b ≡ false
other-by b E k l f h g = grind arith

alone : (k l : List ℕ) (d : Data) → bytes_eq l k ≡ false → value_among k ((l, d) ∷ []) ≡ None
alone k l d h = ap (λ b. cond b (Some d) None) h

same_key : (E : List (List ℕ)) (k l : List ℕ) → bytes_eq l k ≡ true → has_key l E ≡ has_key k E
same_key E k l h = ap (λ m. has_key m E) ((bytes_eq-Decides l k).0 h)

added-none : (E : List (List ℕ)) (k : List ℕ) (s ps : Pairs) → has_key k E ≡ true
    → value_among k s ≡ None → value_among k (added E s ps) ≡ None
added-none E k s [] e h = h
added-none E k s (p ∷ ps) e h =
    added-none-by (has_key p.0 E || has_key p.0 (keys_of s)) E k s p ps (added-none E k s ps e h)
    (λ o.
    added-none E k (s ++ p ∷ []) ps e (among-none k s (p ∷ []) h ∙ alone k p.0 p.1 (other-by
    (bytes_eq p.0 k) E k p.0 (same_key E k p.0) e
    (or-both (has_key p.0 E) (has_key p.0 (keys_of s)) o).0)))

resolved-none-by : (b : Bool) (E : List (List ℕ)) (k : List ℕ) (s : Pairs) (w : Written)
    (ws : List Written) → (has_key k (explicit_keys ws) ≡ false
    → value_among k (resolved E (added E s (merged_pairs w.value.tree)) ws) ≡ None) →
    (bytes_eq w.key k ≡ false → has_key k (explicit_keys ws) ≡ false
    → value_among k (resolved E (s ++ (w.key, w.value.tree) ∷ []) ws) ≡ None) →
    has_key k (cond b [] (w.key ∷ []) ++ explicit_keys ws) ≡ false →
    value_among k (cond b (resolved E (added E s (merged_pairs w.value.tree)) ws)
    (resolved E (s ++ (w.key, w.value.tree) ∷ []) ws)) ≡ None
resolved-none-by b E k s w ws f g h = grind arith

resolved-none : (E : List (List ℕ)) (k : List ℕ) (s : Pairs) (ws : List Written)
    → has_key k E ≡ true → has_key k (explicit_keys ws) ≡ false → value_among k s ≡ None
    → value_among k (resolved E s ws) ≡ None
resolved-none E k s [] e f h = h
resolved-none E k s (w ∷ ws) e f h =
    resolved-none-by w.merges E k s w ws (λ g. resolved-none E k
    (added E s (merged_pairs w.value.tree)) ws e g
    (added-none E k s (merged_pairs w.value.tree) e h))
    (λ o g. resolved-none E k (s ++ (w.key, w.value.tree) ∷ []) ws e g
    (among-none k s _ h ∙ alone k w.key w.value.tree o)) f

resolved-append-by : (b : Bool) (E : List (List ℕ)) (s : Pairs) (w : Written) (ws us : List Written)
    →
    resolved E (added E s (merged_pairs w.value.tree)) (ws ++ us)
    ≡ resolved E (resolved E (added E s (merged_pairs w.value.tree)) ws) us →
    resolved E (s ++ (w.key, w.value.tree) ∷ []) (ws ++ us)
    ≡ resolved E (resolved E (s ++ (w.key, w.value.tree) ∷ []) ws) us →
    cond b (resolved E (added E s (merged_pairs w.value.tree)) (ws ++ us))
    (resolved E (s ++ (w.key, w.value.tree) ∷ []) (ws ++ us))
    ≡ resolved E (cond b (resolved E (added E s (merged_pairs w.value.tree)) ws)
    (resolved E (s ++ (w.key, w.value.tree) ∷ []) ws)) us
resolved-append-by b E s w ws us f g = grind arith

resolved-append : (E : List (List ℕ)) (s : Pairs) (ws us : List Written)
    → resolved E s (ws ++ us) ≡ resolved E (resolved E s ws) us
resolved-append E s [] us = refl
resolved-append E s (w ∷ ws) us = resolved-append-by w.merges E s w ws us
    (resolved-append E (added E s (merged_pairs w.value.tree)) ws us)
    (resolved-append E (s ++ (w.key, w.value.tree) ∷ []) ws us)

explicit-append : (ws us : List Written)
    → explicit_keys (ws ++ us) ≡ explicit_keys ws ++ explicit_keys us
explicit-append [] us = refl
explicit-append (w ∷ ws) us = simp (append_assoc, (explicit-append ws us))

here : (k : List ℕ) (d : Data) (rest : Pairs) → value_among k ((k, d) ∷ rest) ≡ Some d
here k d rest = ap (λ b. cond b (Some d) (value_among k rest)) (same k)

or-right : (a b : Bool) → b ≡ true → (a || b) ≡ true
or-right a b h = grind arith

own-there : (m : Bool) (k : List ℕ) (ks : List (List ℕ)) → m ≡ false
    → has_key k (cond m [] (k ∷ []) ++ ks) ≡ true
own-there m k ks h = search rules

own-step : (m : Bool) (E : List (List ℕ)) (s : Pairs) (w : Written) (ws : List Written) → m ≡ false
    →
    cond m (resolved E (added E s (merged_pairs w.value.tree)) ws)
    (resolved E (s ++ (w.key, w.value.tree) ∷ []) ws) ≡ resolved E
    (s ++ (w.key, w.value.tree) ∷ []) ws
own-step m E s w ws h = grind arith

pairs-back : (ps : Pairs) → pairs_of (entries_of ps) ≡ ps
pairs-back [] = refl
pairs-back (p ∷ ps) = ap (λ qs. p ∷ qs) (pairs-back ps)

pub own-keys-stay : OwnKeysStay
own-keys-stay line front w back own new =
    let ws = front ++ w ∷ back in
    let E = explicit_keys ws in
    let k = w.key in
    let S = resolved E [] front in
    let there : has_key k E ≡ true =
    ap (has_key k) (explicit-append front (w ∷ back)) ∙ has_key-append k (explicit_keys front)
    (explicit_keys (w ∷ back)) ∙ or-right (has_key k (explicit_keys front)) _
    (own-there w.merges k (explicit_keys back) own) in
    let before : value_among k S ≡ None = resolved-none E k [] front there new refl in
    ap (value_among k) (pairs-back (resolved E [] ws) ∙ resolved-append E [] front (w ∷ back)
    ∙ own-step w.merges E S w back own)
    ∙ resolved-stay E k w.value.tree (S ++ (k, w.value.tree) ∷ []) back
    (among-none k S _ before ∙ here k w.value.tree [])
