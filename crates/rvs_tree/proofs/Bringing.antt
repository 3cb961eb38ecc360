-- The keys that entries bring, the step of the pass over merges, and what is gathered in it.
use Rattle.std.proofs.Common.{◌≡◌, ℕ, Bool, true, false, cond, List, [], ◌∷◌, ◌++◌, refl, sym, ap}
use Rattle.std.proofs.Common.{◌∙◌, append_assoc, append-nil, arith, rules}
use Rattle.std.specs.Prelude.{◌||◌}
use Rattle.rvs_tree.specs.Data.{Data, Pairs}
use Rattle.rvs_tree.specs.Value.{Written, has_key, keys_of, resolved, explicit_keys}
use Rattle.rvs_tree.specs.Sifted.{sift, later, kept, gathered, merged_keys}
use Rattle.rvs_tree.proofs.Sums.{map-append, has_key-append}
use Rattle.rvs_tree.proofs.Sifting.{Keys, pairs, adds, Same, taken-again, middle, in-more}
use Rattle.rvs_tree.proofs.Sifting.{sifted-keys, Has, has-first, has-more}
use Rattle.rvs_tree.proofs.Sifting.{pairs-later, later-same, brings}

later-append-by : (m : Bool) (V : Keys) (w : Written) (us vs : List Written) →
    ((U : Keys) → later U (us ++ vs) ≡ later U us ++ later (merged_keys us ++ U) vs) →
    cond m (sift V (pairs w) ++ later (adds w ++ V) (us ++ vs))
    ((w.key, w.value.tree) ∷ later V (us ++ vs))
    ≡ cond m (sift V (pairs w) ++ later (adds w ++ V) us) ((w.key, w.value.tree) ∷ later V us)
    ++ later ((merged_keys us ++ cond m (adds w) []) ++ V) vs
later-append-by m V w us vs f = search (rules, append_assoc, append-nil)

pub later-append : (V : Keys) (us vs : List Written)
    → later V (us ++ vs) ≡ later V us ++ later (merged_keys us ++ V) vs
later-append V [] vs = refl
later-append V (w ∷ us) vs = later-append-by w.merges V w us vs (λ U. later-append U us vs)

kept-merged-by : (m b : Bool) (T : Keys) (w : Written) (ws : List Written) → w.merges ≡ m →
    merged_keys (kept T ws) ≡ merged_keys ws → merged_keys (kept (w.key ∷ T) ws) ≡ merged_keys ws →
    merged_keys (cond m (w ∷ kept T ws) (cond b (kept T ws) (w ∷ kept (w.key ∷ T) ws)))
    ≡ merged_keys ws ++ cond m (adds w) []
kept-merged-by m b T w ws e f g = search rules

pub kept-merged : (T : Keys) (ws : List Written) → merged_keys (kept T ws) ≡ merged_keys ws
kept-merged T [] = refl
kept-merged T (w ∷ ws) = kept-merged-by w.merges (has_key w.key T) T w ws refl (kept-merged T ws)
    (kept-merged (w.key ∷ T) ws)

mix : (ks kl kp mk v : Bool) → (ks || v) ≡ (kp || v) → (kl || (kp || v)) ≡ (mk || (kp || v))
    → ((ks || kl) || v) ≡ ((mk || kp) || v)
mix ks kl kp mk v e f = grind arith

or-false : (a : Bool) → (a || false) ≡ a
or-false a = grind arith

or-either : (a b c : Bool) → (a || b) ≡ true → (b ≡ true → c ≡ true) → (a || c) ≡ true
or-either a b c i g = grind arith

has-rest-by : (m : Bool) (w : Written) (ws : List Written) (V : Keys) → w.merges ≡ m
    → Has (w ∷ ws) V → Has ws V
has-rest-by m w ws V e h = grind arith

has-rest : (w : Written) (ws : List Written) (V : Keys) → Has (w ∷ ws) V → Has ws V
has-rest w ws V h = has-rest-by w.merges w ws V refl h

-- the keys of what entries bring are their own and those that they merge
brought-keys-by : (m : Bool) (V : Keys) (w : Written) (ws : List Written) (k : List ℕ)
    → (m ≡ false → has_key w.key V ≡ true) →
    has_key k (keys_of (later (adds w ++ V) ws) ++ (adds w ++ V))
    ≡ has_key k (merged_keys ws ++ (adds w ++ V)) →
    has_key k (keys_of (later V ws) ++ V) ≡ has_key k (merged_keys ws ++ V) →
    has_key k (keys_of
    (cond m (sift V (pairs w) ++ later (adds w ++ V) ws) ((w.key, w.value.tree) ∷ later V ws))
    ++ V)
    ≡ has_key k ((merged_keys ws ++ cond m (adds w) []) ++ V)
brought-keys-by true V w ws k h f g =
    let ps = pairs w in
    let l = keys_of (later (keys_of ps ++ V) ws) in
    let s = keys_of (sift V ps) in
    ap (λ ks. has_key k (ks ++ V)) (map-append (λ q. q.0) (sift V ps) (later (keys_of ps ++ V) ws))
    ∙ has_key-append k (s ++ l) V ∙ ap (λ b. b || has_key k V) (has_key-append k s l)
    ∙ mix (has_key k s) (has_key k l) (has_key k (keys_of ps)) (has_key k (merged_keys ws))
    (has_key k V)
    (sym (has_key-append k s V) ∙ sifted-keys V ps k ∙ has_key-append k (keys_of ps) V)
    (ap (λ b. has_key k l || b) (sym (has_key-append k (keys_of ps) V))
    ∙ sym (has_key-append k l (keys_of ps ++ V)) ∙ f
    ∙ has_key-append k (merged_keys ws) (keys_of ps ++ V)
    ∙ ap (λ b. has_key k (merged_keys ws) || b) (has_key-append k (keys_of ps) V))
    ∙ ap (λ b. b || has_key k V) (sym (has_key-append k (merged_keys ws) (keys_of ps)))
    ∙ sym (has_key-append k (merged_keys ws ++ keys_of ps) V)
brought-keys-by false V w ws k h f g = grind (arith, taken-again, in-more, append-nil)

brought-keys : (ws : List Written) (V : Keys) → Has ws V
    → Same (keys_of (later V ws) ++ V) (merged_keys ws ++ V)
brought-keys [] V h k = refl
brought-keys (w ∷ ws) V h k =
    brought-keys-by w.merges V w ws k (λ e. has-first w ws V e h)
    (brought-keys ws (adds w ++ V) (has-more ws (adds w) V (has-rest w ws V h)) k)
    (brought-keys ws V (has-rest w ws V h) k)

-- each own key of the entries is among what they bring
own-there-by : (m : Bool) (V : Keys) (w : Written) (ws : List Written) (k : List ℕ) →
    (has_key k (explicit_keys ws) ≡ true → has_key k (keys_of (later (adds w ++ V) ws)) ≡ true) →
    (has_key k (explicit_keys ws) ≡ true → has_key k (keys_of (later V ws)) ≡ true) →
    has_key k (cond m [] (w.key ∷ []) ++ explicit_keys ws) ≡ true →
    has_key k (keys_of
    (cond m (sift V (pairs w) ++ later (adds w ++ V) ws) ((w.key, w.value.tree) ∷ later V ws)))
    ≡ true
own-there-by m V w ws k f g i = search (rules, map-append, in-more, or-either)

own-there : (ws : List Written) (V : Keys) (k : List ℕ) → has_key k (explicit_keys ws) ≡ true
    → has_key k (keys_of (later V ws)) ≡ true
own-there [] V k i = i
own-there (w ∷ ws) V k i =
    own-there-by w.merges V w ws k (own-there ws (adds w ++ V) k) (own-there ws V k) i

finals : (kr e mk v : Bool) → (kr || e) ≡ (mk || e) → (e ≡ true → kr ≡ true)
    → (kr || v) ≡ (mk || (v || e))
finals kr e mk v f g = grind arith

pub all-keys : (T : Keys) (ws : List Written)
    → Same (keys_of (resolved (explicit_keys ws) [] ws) ++ T)
    (merged_keys (kept T ws) ++ (T ++ explicit_keys ws))
all-keys T ws k =
    let E = explicit_keys ws in
    let r = keys_of (later E ws) in
    ap (λ ps. has_key k (keys_of ps ++ T)) (pairs-later ws) ∙ has_key-append k r T
    ∙ finals (has_key k r) (has_key k E) (has_key k (merged_keys ws)) (has_key k T)
    (sym (has_key-append k r E) ∙ brought-keys ws E (λ j i. i) k
    ∙ has_key-append k (merged_keys ws) E) (own-there ws E k)
    ∙ ap (λ b. has_key k (merged_keys ws) || b) (sym (has_key-append k T E))
    ∙ sym (has_key-append k (merged_keys ws) (T ++ E))
    ∙ ap (λ ks. has_key k (ks ++ (T ++ E))) (sym (kept-merged T ws))

-- THE STEP: in place of an entry that merges a map stand the entries of that map that are kept
pub enters : (T : Keys) (ws rest : List Written) →
    sift T (resolved (explicit_keys ws) [] ws)
    ++ later (keys_of (resolved (explicit_keys ws) [] ws) ++ T) rest
    ≡ later (T ++ explicit_keys ws) (kept T ws ++ rest)
enters T ws rest = grind (arith, brings, later-same, all-keys, later-append)

gathered-by : (b : Bool) (g : Pairs × Keys) (p : List ℕ × Data) (ps : Pairs) →
    cond b (gathered g ps) (gathered (g.0 ++ p ∷ [], p.0 ∷ g.1) ps)
    ≡ gathered (cond b g (g.0 ++ p ∷ [], p.0 ∷ g.1)) ps
gathered-by b g p ps = grind arith

pub gathered-step : (g : Pairs × Keys) (p : List ℕ × Data) (ps : Pairs)
    → gathered g (p ∷ ps) ≡ gathered (gathered g (p ∷ [])) ps
gathered-step g p ps = gathered-by (has_key p.0 g.1) g p ps

pub gathered-append : (g : Pairs × Keys) (ps qs : Pairs)
    → gathered g (ps ++ qs) ≡ gathered (gathered g ps) qs
gathered-append g [] qs = refl
gathered-append g (p ∷ ps) qs = simp (gathered-step, (gathered-append (gathered g (p ∷ [])) ps qs))

-- what is gathered is what is sifted
gathered-sift-by : (b : Bool) (out : Pairs) (T : Keys) (p : List ℕ × Data) (ps : Pairs) →
    (gathered (out, T) ps).0 ≡ out ++ sift T ps
    → (gathered (out ++ p ∷ [], p.0 ∷ T) ps).0 ≡ (out ++ p ∷ []) ++ sift (p.0 ∷ T) ps →
    (cond b (gathered (out, T) ps) (gathered (out ++ p ∷ [], p.0 ∷ T) ps)).0
    ≡ out ++ cond b (sift T ps) (p ∷ sift (p.0 ∷ T) ps)
gathered-sift-by b out T p ps f g = search (rules, append_assoc)

pub gathered-sift : (out : Pairs) (T : Keys) (ps : Pairs)
    → (gathered (out, T) ps).0 ≡ out ++ sift T ps
gathered-sift out T [] = sym (append-nil out)
gathered-sift out T (p ∷ ps) = gathered-sift-by (has_key p.0 T) out T p ps (gathered-sift out T ps)
    (gathered-sift (out ++ p ∷ []) (p.0 ∷ T) ps)

gathered-keys-by : (b : Bool) (out : Pairs) (T : Keys) (p : List ℕ × Data) (ps : Pairs) (k : List ℕ)
    → has_key p.0 T ≡ b →
    has_key k (gathered (out, T) ps).1 ≡ has_key k (keys_of ps ++ T)
    → has_key k (gathered (out ++ p ∷ [], p.0 ∷ T) ps).1 ≡ has_key k (keys_of ps ++ p.0 ∷ T) →
    has_key k (cond b (gathered (out, T) ps) (gathered (out ++ p ∷ [], p.0 ∷ T) ps)).1
    ≡ has_key k (p.0 ∷ keys_of ps ++ T)
gathered-keys-by b out T p ps k e f g = search (rules, taken-again, in-more, middle)

pub gathered-keys : (out : Pairs) (T : Keys) (ps : Pairs)
    → Same (gathered (out, T) ps).1 (keys_of ps ++ T)
gathered-keys out T [] k = refl
gathered-keys out T (p ∷ ps) k = gathered-keys-by (has_key p.0 T) out T p ps k refl
    (gathered-keys out T ps k) (gathered-keys (out ++ p ∷ []) (p.0 ∷ T) ps k)
