-- One entry more, and small values in the place of others.
use Rattle.std.proofs.Common.{◌≡◌, ℕ, cond, Bool, true, false, List, [], ◌∷◌, ◌++◌, ap}
use Rattle.std.proofs.Common.{◌∙◌, append_assoc, rules, Global, suc, ◌+◌, ◌<◌, ◌≤◌, map, drop, take}
use Rattle.std.proofs.Common.{length, get_or, drop-cons, arith}
use Rattle.std.proofs.lemmas.List.{take_more}
use Rattle.std.specs.Prelude.{String, string_bytes, ◌||◌, ◌&&◌}
use Rattle.std.specs.List.{zip}
use Rattle.std.specs.declared.rc.Rc.{Rc}
use Rattle.rvs_tree.specs.Data.{Data, Pairs, scalar, sequence, mapping, no_items, no_entries, depth}
use Rattle.rvs_tree.specs.Data.{is_scalar, is_map, line_of}
use Rattle.rvs_tree.specs.Value.{Value, Written, has_key, is_mergeable, resolved, added}
use Rattle.rvs_tree.specs.Value.{merged_pairs}
use Rattle.rvs_tree.specs.Bound.{deepest_brought}
use Rattle.rvs_tree.specs.Standin.{thin}
use Rattle.rvs_tree.specs.Sifted.{later, kept, gathered}
use Rattle.rvs_tree.specs.Parts.{takes}
use Rattle.rvs_tree.specs.TreeView.{rc_view}
use Rattle.rvs_tree.specs.DraftView.{part_view, own_entry, merged_trees}
use Rattle.rvs_tree.specs.PartsView.{part_size}
use Rattle.rvs_tree.specs.declared.tree.Tree.{Tree}
use Rattle.rvs_tree.specs.declared.draft.Part.{Part, the_lemmas}
use Rattle.rvs_tree.specs.declared.draft.Part.TheVariants as part
use Rattle.rvs_tree.proofs.Sums.{map-append}

pub view-pair : (p : Part) (k : String Global) (t : Rc Tree Global) → p ≡ part.Pair k t
    → part_view p ≡ own_entry (string_bytes k) (rc_view t)
view-pair p k t e = search (rules, the_lemmas)

pub size-pair : (p : Part) (k : String Global) (t : Rc Tree Global) → p ≡ part.Pair k t
    → part_size p ≡ 1
size-pair p k t e = search (rules, the_lemmas)

pub size-whole : (p : Part) (t : Rc Tree Global) → p ≡ part.Whole t → part_size p ≡ 1
size-whole p t e = search (rules, the_lemmas)

pub takes-own : (T : List (List ℕ)) (w : Written) (b : Bool) → w.merges ≡ false
    → has_key w.key T ≡ b → takes T (w ∷ []) ≡ cond b T (w.key ∷ T)
takes-own T w b m h = grind arith

pub kept-own : (T : List (List ℕ)) (w : Written) (b : Bool) → w.merges ≡ false
    → has_key w.key T ≡ b → kept T (w ∷ []) ≡ cond b [] (w ∷ [])
kept-own T w b m h = grind arith

pub takes-merging : (T : List (List ℕ)) (w : Written) → w.merges ≡ true → takes T (w ∷ []) ≡ T
takes-merging T w m = ap (λ x. cond x T (cond (has_key w.key T) T (w.key ∷ T))) m

pub merged-one : (w : Written) → w.merges ≡ true → merged_trees (w ∷ []) ≡ w.value.tree ∷ []
merged-one w m = ap (λ x. cond x (w.value.tree ∷ []) []) m

pub after-own : (out : Pairs) (T : List (List ℕ)) (p : List ℕ × Data) (g : Pairs × List (List ℕ))
    (rest : List Written) → g ≡ (out ++ p ∷ [], T)
    → g.0 ++ later g.1 rest ≡ out ++ p ∷ later T rest
after-own out T p g rest e = grind (arith, append_assoc)

abbrev made : Data → ℕ → Value
made d n = record { tree = d; nodes = n }

pub same-value : (d e : Data) (n m : ℕ) → d ≡ e → n ≡ m → made d n ≡ made e m
same-value d e n m p q = ap (λ x. made x n) p ∙ ap (made e) q

-- what stands for a list, all of whose items are maps or empty scalars, or not
abbrev pub thin_for : Bool → ℕ → Data
thin_for b line = cond b (sequence no_items line) (scalar (120 ∷ []) line)

pub thin-mergeable : (b : Bool) (line : ℕ) → is_mergeable (thin_for b line) ≡ b
thin-mergeable b line = grind arith

pub thin-depth : (b : Bool) (line : ℕ) → depth (thin_for b line) ≡ 1
thin-depth b line = grind arith

pub thin-scalar : (d : Data) → is_scalar d ≡ true → thin d ≡ d
thin-scalar d e = grind arith

pub thin-map : (d : Data) → is_map d ≡ true → thin d ≡ mapping no_entries (line_of d)
thin-map d e = grind arith

pub same-pair : {A B : Type 0} (a b : A) (c d : B) → a ≡ b → c ≡ d → ◌≡◌ {A = A × B} (a, c) (b, d)
same-pair {A} {B} a b c d p q = grind arith

pub gathered-by-key : (b : Bool) (g : Pairs × List (List ℕ)) (k : List ℕ) (d : Data)
    → has_key k g.1 ≡ b → gathered g ((k, d) ∷ []) ≡ cond b g (g.0 ++ (k, d) ∷ [], k ∷ g.1)
gathered-by-key b g k d e = ap (λ x. cond x g (g.0 ++ (k, d) ∷ [], k ∷ g.1)) e

pub or-swap : (a b : Bool) → (a || b) ≡ (b || a)
or-swap a b = grind arith

resolved-by : (m : Bool) (E : List (List ℕ)) (s : Pairs) (w : Written) (ws : List Written) →
    cond m (resolved E (added E s (merged_pairs w.value.tree)) ws)
    (resolved E (s ++ (w.key, w.value.tree) ∷ []) ws)
    ≡ resolved E
    (cond m (added E s (merged_pairs w.value.tree)) (s ++ (w.key, w.value.tree) ∷ [])) ws
resolved-by m E s w ws = grind arith

pub resolved-step : (E : List (List ℕ)) (s : Pairs) (w : Written) (ws : List Written)
    → resolved E s (w ∷ ws) ≡ resolved E (resolved E s (w ∷ [])) ws
resolved-step E s w ws = resolved-by w.merges E s w ws

-- the pairs from a place on
pub zip-step : (ks : List (String Global)) (vs : List (Rc Tree Global)) (i : ℕ) (k : String Global)
    (v : Rc Tree Global) → i < length ks → i < length vs → k ≡ get_or ks i k → v ≡ get_or vs i v →
    zip (map string_bytes (drop i ks)) (map rc_view (drop i vs)) ≡ (string_bytes k, rc_view v)
    ∷ zip (map string_bytes (drop (suc i) ks)) (map rc_view (drop (suc i) vs))
zip-step ks vs i k v l m e f = grind (arith, drop-cons)

-- A loop that pushes what it makes of each item: `view` tells what was pushed, `told` what the
-- items so far give.
pub pushed : {A B C : Type 0} (view : A → C) (told : List B → List C) (one : B → C)
    (step : (ys : List B) (y : B) → told (ys ++ y ∷ []) ≡ told ys ++ one y ∷ []) (xs new : List A)
    (a : A) (ys : List B) (i : ℕ) (d : B) → new ≡ xs ++ a ∷ [] → map view xs ≡ told (take i ys)
    → i < length ys → view a ≡ one (get_or ys i d) → map view new ≡ told (take (i + 1) ys)
pushed {A} {B} {C} view told one step xs new a ys i d e h l s = grind (arith, map-append, take_more)

pub map-map-push : {A B C : Type 0} (f : A → B) (g : B → C) (xs : List A) (x : A)
    → map g (map f (xs ++ x ∷ [])) ≡ map g (map f xs) ++ g (f x) ∷ []
map-map-push f g xs x = simp map-append

-- the depth that an entry brings, from that of the same entry told apart from its keys
pub brought-same : (m : Bool) (E : List (List ℕ)) (h k : Bool) (d e : Data) (n l : ℕ) →
    (m ≡ true → h ≡ k) → d ≡ e → n ≤ l
    → deepest_brought E (m && h) d n ≤ deepest_brought E (m && k) e l
brought-same m E h k d e n l f p q = grind arith
