-- Keys that move from one set to another, and the keys that collections bring.
use Rattle.std.proofs.Common.{◌≡◌, ℕ, Bool, true, false, cond, List, [], ◌∷◌, ◌++◌, sym, ap}
use Rattle.std.proofs.Common.{◌∙◌, append-nil, arith}
use Rattle.std.specs.Prelude.{◌||◌}
use Rattle.rvs_tree.specs.Data.{own_pairs}
use Rattle.rvs_tree.specs.Value.{Value, Written, has_key, keys_of, explicit_keys, resolved, trees}
use Rattle.rvs_tree.specs.Value.{merged_pairs, pairs_in, map_value, list_value}
use Rattle.rvs_tree.specs.Sifted.{merged_keys}
use Rattle.rvs_tree.proofs.Sums.{map-append, has_key-append}
use Rattle.rvs_tree.proofs.Views.{list_of-items_of, pairs_of-entries_of}
use Rattle.rvs_tree.proofs.Bringing.{all-keys, kept-merged}

-- a key that moved was in one of the sets
pub moved : (b s f : Bool) → (b ≡ true → f ≡ true) → (cond b true s || cond b false f) ≡ true
    → (s || f) ≡ true
moved b s f h e = grind arith

-- the keys of what a map of these entries brings
pub map-keys : (line : ℕ) (ws : List Written) (k : List ℕ)
    → has_key k (keys_of (merged_pairs (map_value line ws).tree))
    ≡ (has_key k (merged_keys ws) || has_key k (explicit_keys ws))
map-keys line ws k =
    let E = explicit_keys ws in
    let R = resolved E [] ws in
    ap (λ ps. has_key k (keys_of ps)) (pairs_of-entries_of R)
    ∙ sym (ap (has_key k) (append-nil (keys_of R))) ∙ all-keys [] ws k
    ∙ ap (λ m. has_key k (m ++ E)) (kept-merged [] ws) ∙ has_key-append k (merged_keys ws) E

-- and of a list of these values
pub list-keys : (line : ℕ) (vs : List Value) (k : List ℕ)
    → has_key k (keys_of (merged_pairs (list_value line vs).tree))
    ≡ has_key k (keys_of (pairs_in (trees vs)))
list-keys line vs k = simp list_of-items_of

keys_of-append : (ps qs : _) → keys_of (ps ++ qs) ≡ keys_of ps ++ keys_of qs
keys_of-append ps qs = map-append (λ p. p.0) ps qs

pub keys-push : (vs : List Value) (v : Value) (k : List ℕ)
    → has_key k (keys_of (pairs_in (trees (vs ++ v ∷ []))))
    ≡ (has_key k (keys_of (pairs_in (trees vs))) || has_key k (keys_of (own_pairs v.tree)))
keys-push [] v k = ap (λ ps. has_key k (keys_of ps)) (append-nil (own_pairs v.tree))
keys-push (u ∷ us) v k = grind (arith, keys_of-append, has_key-append, (keys-push us v k))

-- what is known of either is known of both
pub or-both : (a b c d : Bool) → (a ≡ true → c ≡ true) → (b ≡ true → d ≡ true) → (a || b) ≡ true
    → (c || d) ≡ true
or-both a b c d f g e = grind arith
