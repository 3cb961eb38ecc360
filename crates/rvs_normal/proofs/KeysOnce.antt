-- Each map of an accepted text has each of its keys once.
use Rattle.std.proofs.Common.{◌≡◌, ℕ, Bool, true, false, List, [], ◌∷◌, ◌++◌, refl, sym, ap, subst}
use Rattle.std.proofs.Common.{◌∙◌, append_assoc, append-nil, arith, rules}
use Rattle.std.proofs.lemmas.Bool.{and_from, or_parts, not_from_false, and_parts}
use Rattle.std.specs.Prelude.{◌||◌, not, bytes_eq}
use Rattle.std.specs.List.{list_any}
use mathlib.Core.Bool.{cond}
use Rattle.std.proofs.lemmas.List.Folds.{list_any-append}
use Rattle.rvs_tree.proofs.Views.{pairs_of-entries_of}
use Rattle.rvs_tree.specs.Data.{Data, Items, no_items, item, items_of}
use Rattle.rvs_tree.specs.Data.{list_of, Entries, no_entries, entry, entries_of, pairs_of, Pairs}
use Rattle.rvs_tree.specs.Data.{own_pairs}
use Rattle.rvs_tree.specs.Value.{Value, list_value, map_value, trees, Written, has_key, pairs_in}
use Rattle.rvs_tree.specs.Value.{merged_pairs, keys_of, added, own_key, explicit_keys, resolved}
use Rattle.rvs_yaml_text.specs.Word.{Key}
use Rattle.rvs_yaml.specs.Entry.{written}
use Rattle.rvs_cgf.specs.Spelled.{keys_are_own}
use Rattle.rvs_normal.specs.Once.{KeysOnce, ItemsOnce, EntriesOnce}
use Rattle.rvs_normal.proofs.Truths.{or-last, or-true, not-true}
use Rattle.rvs_normal.proofs.Apart.{eq-back}

-- ---- lists of pairs
abbrev pub PairsOwned : Pairs → Type 0
PairsOwned [] = Unit {0}
PairsOwned (p ∷ ps) = KeysOnce p.1 × PairsOwned ps

to-entries : (ps : Pairs) → PairsOwned ps → EntriesOnce (entries_of ps)
to-entries [] h = tt
to-entries (p ∷ ps) h = (h.0, to-entries ps h.1)

from-entries : (es : Entries) → EntriesOnce es → PairsOwned (pairs_of es)
from-entries no_entries h = tt
from-entries (entry k d es) h = (h.0, from-entries es h.1)

own-pairs-owned : (d : Data) → KeysOnce d → PairsOwned (own_pairs d)
own-pairs-owned d h = search (rules, from-entries)

pairs-append : (ps qs : Pairs) → PairsOwned ps → PairsOwned qs → PairsOwned (ps ++ qs)
pairs-append [] qs h k = k
pairs-append (p ∷ ps) qs h k = (h.0, pairs-append ps qs h.1 k)

pairs-in-owned : (is : Items) → ItemsOnce is → PairsOwned (pairs_in (list_of is))
pairs-in-owned no_items h = tt
pairs-in-owned (item d ds) h = grind (arith, pairs-append, own-pairs-owned, (pairs-in-owned ds h.1))

merged-owned : (d : Data) → KeysOnce d → PairsOwned (merged_pairs d)
merged-owned d h = search (rules, pairs-in-owned, from-entries)

-- none of these keys is among the pairs
abbrev pub NoneIn : List (List ℕ) → Pairs → Type 0
NoneIn [] ps = Unit {0}
NoneIn (k ∷ ks) ps = (has_key k (keys_of ps) ≡ false) × NoneIn ks ps

keys-append : (ps qs : Pairs) → keys_of (ps ++ qs) ≡ keys_of ps ++ keys_of qs
keys-append [] qs = refl
keys-append (p ∷ ps) qs = ap (λ ks. p.0 ∷ ks) (keys-append ps qs)

has-pushed : (k : List ℕ) (ps : Pairs) (p : List ℕ × Data) → has_key k (keys_of ps) ≡ false
    → bytes_eq p.0 k ≡ false → has_key k (keys_of (ps ++ (p ∷ []))) ≡ false
has-pushed k ps p h e = simp (keys-append, list_any-append, or-last)

any-pushed : (k : List ℕ) (ps : Pairs) (p : List ℕ × Data)
    → list_any (λ f. bytes_eq f.0 k) ps ≡ false → bytes_eq p.0 k ≡ false
    → list_any (λ f. bytes_eq f.0 k) (ps ++ (p ∷ [])) ≡ false
any-pushed k ps p h e = simp (list_any-append, or-last)

-- a pair whose key none has may stand behind them
own-pushed : (ps : Pairs) (p : List ℕ × Data) → keys_are_own ps ≡ true
    → has_key p.0 (keys_of ps) ≡ false → keys_are_own (ps ++ (p ∷ [])) ≡ true
own-pushed [] p h k = refl
own-pushed (q ∷ qs) p h k =
    let a = and_parts (not (list_any (λ f. bytes_eq f.0 q.0) qs)) (keys_are_own qs) h in
    let b = or_parts (bytes_eq q.0 p.0) (has_key p.0 (keys_of qs)) k in
    and_from (not (list_any (λ f. bytes_eq f.0 q.0) (qs ++ (p ∷ []))))
    (keys_are_own (qs ++ (p ∷ [])))
    (not_from_false (list_any (λ f. bytes_eq f.0 q.0) (qs ++ (p ∷ []))) (any-pushed q.0 qs p
    (not-true (list_any (λ f. bytes_eq f.0 q.0) qs) a.0) (eq-back q.0 p.0 b.0)))
    (own-pushed qs p a.1 b.1)

-- ---- what is merged
pub record Good (explicit : List (List ℕ)) (ps : Pairs) : Type 0 where
  pub own : keys_are_own ps ≡ true
  pub owned : PairsOwned ps

none-pushed : (ks : List (List ℕ)) (ps : Pairs) (p : List ℕ × Data) → NoneIn ks ps
    → has_key p.0 ks ≡ false → NoneIn ks (ps ++ (p ∷ []))
none-pushed [] ps p n h = tt
none-pushed (k ∷ ks) ps p n h =
    let q = or_parts (bytes_eq k p.0) (has_key p.0 ks) h in
    (has-pushed k ps p n.0 (eq-back k p.0 q.0), none-pushed ks ps p n.1 q.1)

-- adding keeps keys apart, and adds no explicit key
pub added-good : (explicit ks : List (List ℕ)) (so_far qs : Pairs)
    → ((k : List ℕ) → has_key k explicit ≡ false → has_key k ks ≡ false) → Good explicit so_far
    → NoneIn ks so_far → PairsOwned qs
    → Good explicit (added explicit so_far qs) × NoneIn ks (added explicit so_far qs)
added-good explicit ks so_far [] sub g n o = (g, n)
added-good explicit ks so_far (q ∷ qs) sub g n o =
    by-case (has_key q.0 explicit || has_key q.0 (keys_of so_far)) refl
    (added-good explicit ks so_far qs sub g n o.1)
    (λ h. let f = or_parts (has_key q.0 explicit) (has_key q.0 (keys_of so_far)) h in
    added-good explicit ks (so_far ++ (q ∷ [])) qs sub (record {
      own = own-pushed so_far q g.own f.1;
      owned = pairs-append so_far (q ∷ []) g.owned (o.0, tt);
    }) (none-pushed ks so_far q n (sub q.0 f.0)) o.1)
  where
    by-case : (b : Bool) → (has_key q.0 explicit || has_key q.0 (keys_of so_far)) ≡ b
        → Good explicit (added explicit so_far qs) × NoneIn ks (added explicit so_far qs)
        → ((has_key q.0 explicit || has_key q.0 (keys_of so_far)) ≡ false
        → Good explicit (added explicit (so_far ++ (q ∷ [])) qs)
        × NoneIn ks (added explicit (so_far ++ (q ∷ [])) qs))
        → Good explicit (added explicit so_far (q ∷ qs))
        × NoneIn ks (added explicit so_far (q ∷ qs))
    by-case true e passed pushed = rw (e, added) passed
    by-case false e passed pushed = rw (e, added) (pushed e)

-- ---- written entries
abbrev pub WrittenOwned : List Written → Type 0
WrittenOwned [] = Unit {0}
WrittenOwned (w ∷ ws) = KeysOnce w.value.tree × WrittenOwned ws

-- each explicit key once
abbrev pub Apart : List (List ℕ) → Type 0
Apart [] = Unit {0}
Apart (k ∷ ks) = (has_key k ks ≡ false) × Apart ks

resolved-good : (explicit : List (List ℕ)) (so_far : Pairs) (ws : List Written)
    → ((k : List ℕ) → has_key k explicit ≡ false → has_key k (explicit_keys ws) ≡ false)
    → Apart (explicit_keys ws) → Good explicit so_far → NoneIn (explicit_keys ws) so_far
    → WrittenOwned ws → Good explicit (resolved explicit so_far ws)
resolved-good explicit so_far [] sub a g n o = g
resolved-good explicit so_far (w ∷ ws) sub a g n o =
    by-case w.merges refl
    (λ sub' a' n'. let m = added-good explicit (explicit_keys ws) so_far (merged_pairs w.value.tree)
    sub' g n' (merged-owned w.value.tree o.0) in resolved-good explicit
    (added explicit so_far (merged_pairs w.value.tree)) ws sub' a' m.0 m.1 o.1)
    (λ sub' a' n'. resolved-good explicit (so_far ++ ((w.key, w.value.tree) ∷ [])) ws
    (λ k h. (or_parts (bytes_eq w.key k) (has_key k (explicit_keys ws)) (sub' k h)).1) a'.1
    (record {
      own = own-pushed so_far (w.key, w.value.tree) g.own n'.0;
      owned = pairs-append so_far ((w.key, w.value.tree) ∷ []) g.owned (o.0, tt);
    })
    (none-pushed (explicit_keys ws) so_far (w.key, w.value.tree) n'.1 a'.0) o.1)
  where
    by-case : (b : Bool) → w.merges ≡ b
        → (((k : List ℕ) → has_key k explicit ≡ false → has_key k (explicit_keys ws) ≡ false)
        → Apart (explicit_keys ws) → NoneIn (explicit_keys ws) so_far → Good explicit
        (resolved explicit (added explicit so_far (merged_pairs w.value.tree)) ws))
        → (((k : List ℕ) → has_key k explicit ≡ false
        → has_key k (w.key ∷ explicit_keys ws) ≡ false) → Apart (w.key ∷ explicit_keys ws)
        → NoneIn (w.key ∷ explicit_keys ws) so_far → Good explicit
        (resolved explicit (so_far ++ ((w.key, w.value.tree) ∷ [])) ws))
        → Good explicit (resolved explicit so_far (w ∷ ws))
    by-case true e merged owned =
        let same : explicit_keys (w ∷ ws) ≡ explicit_keys ws =
        ap (λ b. cond b [] (w.key ∷ []) ++ explicit_keys ws) e in
        subst (Good explicit) (sym (ap (λ b. cond b
        (resolved explicit (added explicit so_far (merged_pairs w.value.tree)) ws)
        (resolved explicit (so_far ++ ((w.key, w.value.tree) ∷ [])) ws)) e))
        (merged (λ k h. sym (ap (has_key k) same) ∙ sub k h) (subst Apart same a)
        (subst (λ ks. NoneIn ks so_far) same n))
    by-case false e merged owned =
        let same : explicit_keys (w ∷ ws) ≡ w.key ∷ explicit_keys ws =
        ap (λ b. cond b [] (w.key ∷ []) ++ explicit_keys ws) e in
        subst (Good explicit) (sym (ap (λ b. cond b
        (resolved explicit (added explicit so_far (merged_pairs w.value.tree)) ws)
        (resolved explicit (so_far ++ ((w.key, w.value.tree) ∷ [])) ws)) e))
        (owned (λ k h. sym (ap (has_key k) same) ∙ sub k h) (subst Apart same a)
        (subst (λ ks. NoneIn ks so_far) same n))

none-in-nothing : (ks : List (List ℕ)) → NoneIn ks []
none-in-nothing [] = tt
none-in-nothing (k ∷ ks) = (refl, none-in-nothing ks)

pub map-owned : (line : ℕ) (ws : List Written) → Apart (explicit_keys ws) → WrittenOwned ws
    → KeysOnce (map_value line ws).tree
map-owned line ws a o =
    let g = resolved-good (explicit_keys ws) [] ws (λ k h. h) a (record { own = refl; owned = tt })
    (none-in-nothing (explicit_keys ws)) o in (
      ap keys_are_own (pairs_of-entries_of (resolved (explicit_keys ws) [] ws)) ∙ g.own,
      to-entries (resolved (explicit_keys ws) [] ws) g.owned,
    )

-- ---- lists of values
abbrev pub ValuesOwned : List Value → Type 0
ValuesOwned [] = Unit {0}
ValuesOwned (v ∷ vs) = KeysOnce v.tree × ValuesOwned vs

items-owned : (vs : List Value) → ValuesOwned vs → ItemsOnce (items_of (trees vs))
items-owned [] h = tt
items-owned (v ∷ vs) h = (h.0, items-owned vs h.1)

pub list-owned : (line : ℕ) (vs : List Value) → ValuesOwned vs → KeysOnce (list_value line vs).tree
list-owned line vs h = items-owned vs h

pub values-append : (vs us : List Value) → ValuesOwned vs → ValuesOwned us → ValuesOwned (vs ++ us)
values-append [] us h k = k
values-append (v ∷ vs) us h k = (h.0, values-append vs us h.1 k)

pub written-append : (vs us : List Written) → WrittenOwned vs → WrittenOwned us
    → WrittenOwned (vs ++ us)
written-append [] us h k = k
written-append (v ∷ vs) us h k = (h.0, written-append vs us h.1 k)

-- ---- one key more
has-behind : (k : List ℕ) (ks : List (List ℕ)) (j : List ℕ) → has_key k ks ≡ false
    → bytes_eq j k ≡ false → has_key k (ks ++ (j ∷ [])) ≡ false
has-behind k ks j h e = simp (list_any-append, or-last)

pub apart-pushed : (ks : List (List ℕ)) (k : List ℕ) → Apart ks → has_key k ks ≡ false
    → Apart (ks ++ (k ∷ []))
apart-pushed [] k a h = (refl, tt)
apart-pushed (j ∷ ks) k a h =
    let p = or_parts (bytes_eq j k) (has_key k ks) h in
    (has-behind j ks k a.0 (eq-back j k p.0), apart-pushed ks k a.1 p.1)

explicit-append : (ws : List Written) (w : Written)
    → explicit_keys (ws ++ (w ∷ [])) ≡ explicit_keys ws ++ own_key w
explicit-append [] w = append-nil (own_key w)
explicit-append (u ∷ ws) w = simp (append_assoc, (explicit-append ws w))

-- the key merges, or is new
abbrev pub IsNew : List Written → Key → Type 0
IsNew ws k = (k.merges || not (has_key k.name (explicit_keys ws))) ≡ true

pub apart-written : (ws : List Written) (k : Key) (v : Value) → Apart (explicit_keys ws)
    → IsNew ws k → Apart (explicit_keys (ws ++ (written k v ∷ [])))
apart-written ws k v a n = grind (arith, explicit-append, append-nil, apart-pushed, or-true)
