-- How deep trees are, and what an entry more brings.
use Rattle.std.proofs.Common.{◌≡◌, ℕ, zero, suc, ◌-◌, ◌<◌, ◌≤◌, max, min, Bool, true, false, cond}
use Rattle.std.proofs.Common.{List, [], ◌∷◌, ◌++◌, map, take, slice_get, Some, refl, ap, arith}
use Rattle.std.proofs.Common.{rules}
use Rattle.std.specs.Prelude.{◌||◌, nat_lt, if◌then◌else◌}
use Rattle.std.proofs.lemmas.Bool.Decides.{nat_tests}
use Rattle.rvs_tree.specs.Data.{Data, scalar, sequence, mapping, Items, no_items, item, Entries}
use Rattle.rvs_tree.specs.Data.{no_entries, entry, list_of, Pairs, pairs_of, members_of, is_scalar}
use Rattle.rvs_tree.specs.Data.{is_list, depth, items_depth, entries_depth}
use Rattle.rvs_tree.specs.Value.{Written, has_key, explicit_keys, merged_pairs}
use Rattle.rvs_tree.specs.Bound.{members_depth, pairs_depth, visible_depth, brought, written_depth}
use Rattle.rvs_tree.specs.Sifted.{sift}
use Rattle.rvs_tree.proofs.Sums.{pairs_depth-append, has_key-append, visible-append, brought_small}
use Rattle.rvs_tree.proofs.Sums.{visible_less, list_shallower, merged_shallower}
use Rattle.rvs_tree.proofs.Growing.{merge-more, own-more}

items-depth : (ds : Items) → items_depth ds ≡ members_depth (list_of ds)
items-depth no_items = refl
items-depth (item d ds) = ap (max (depth d)) (items-depth ds)

entries-depth : (es : Entries) → entries_depth es ≡ members_depth (map (λ p. p.1) (pairs_of es))
entries-depth no_entries = refl
entries-depth (entry k d es) = ap (max (depth d)) (entries-depth es)

pub depth-members : (d : Data) → is_scalar d ≡ false → depth d ≡ suc (members_depth (members_of d))
depth-members d h = search (rules, items-depth, entries-depth)

pub take-get : (ds : List Data) (i : ℕ) (m : Data) → slice_get ds i ≡ Some m
    → members_depth (take (suc i) ds) ≡ max (members_depth (take i ds)) (depth m)
take-get [] zero m h = cc
take-get [] (suc i) m h = cc
take-get (d ∷ ds) zero m h = let same : d ≡ m = cc in omega (arith, ap depth same)
take-get (d ∷ ds) (suc i) m h = omega (arith, take-get ds i m h)

pub some-depth : (d : Data) → 1 ≤ depth d
some-depth (scalar text line) = omega arith
some-depth (sequence ds line) = omega arith
some-depth (mapping es line) = omega arith

-- what is sifted is visible
sift-visible-by : (t b : Bool) (T E : List (List ℕ)) (p : List ℕ × Data) (ps : Pairs)
    → (b ≡ true → t ≡ true) → pairs_depth (sift T ps) ≤ visible_depth E ps
    → pairs_depth (sift (p.0 ∷ T) ps) ≤ visible_depth E ps →
    pairs_depth (cond t (sift T ps) (p ∷ sift (p.0 ∷ T) ps))
    ≤ max (cond b 0 (depth p.1)) (visible_depth E ps)
sift-visible-by t b T E p ps h f g = grind arith

more-keys : (a b : Bool) → b ≡ true → (a || b) ≡ true
more-keys a b h = grind arith

sift-visible : (T E : List (List ℕ)) (ps : Pairs)
    → ((k : List ℕ) → has_key k E ≡ true → has_key k T ≡ true)
    → pairs_depth (sift T ps) ≤ visible_depth E ps
sift-visible T E [] h = omega arith
sift-visible T E (p ∷ ps) h =
    sift-visible-by (has_key p.0 T) (has_key p.0 E) T E p ps (h p.0) (sift-visible T E ps h)
    (sift-visible (p.0 ∷ T) E ps (λ k i. more-keys _ (has_key k T) (h k i)))

in-front : (a b : Bool) → a ≡ true → (a || b) ≡ true
in-front a b h = grind arith

merged-push : (ws : List Written) (w : Written) → w.merges ≡ true → written_depth (ws ++ w ∷ [])
    ≤ max (written_depth ws) (visible_depth (explicit_keys ws) (merged_pairs w.value.tree))
merged-push ws w e =
    grind (arith, merge-more, pairs_depth-append, sift-visible, has_key-append, in-front)

push-by : (m : Bool) (ws : List Written) (w : Written) → w.merges ≡ m → written_depth (ws ++ w ∷ [])
    ≤ max (written_depth ws) (brought (explicit_keys ws) m w.value.tree)
push-by m ws w e = search (rules, merged-push, own-more)

-- with an entry more, a map is no deeper than it was and than what the entry brings
pub written_depth-push : (ws : List Written) (w : Written) → written_depth (ws ++ w ∷ [])
    ≤ max (written_depth ws) (brought (explicit_keys ws) w.merges w.value.tree)
written_depth-push ws w = push-by w.merges ws w refl

-- a pair more, and pairs more, in front of the rest
pub visible-step : (E : List (List ℕ)) (n : ℕ) (k : List ℕ) (d : Data) (ps : Pairs) →
    max (max n (min (if has_key k E then 0 else depth d) 33)) (min (visible_depth E ps) 33)
    ≡ max n (min (visible_depth E ((k, d) ∷ ps)) 33)
visible-step E n k d ps = omega arith

pub visible-steps : (E : List (List ℕ)) (n : ℕ) (ps qs : Pairs)
    → max (max n (min (visible_depth E ps) 33)) (min (visible_depth E qs) 33)
    ≡ max n (min (visible_depth E (ps ++ qs)) 33)
visible-steps E n ps qs = omega (arith, visible-append E ps qs)

pub brought-within : (E : List (List ℕ)) (m : Bool) (d : Data) (n : ℕ) → min (depth d) 33 ≤ n
    → min (brought E m d) 33 ≤ n
brought-within E m d n h = omega (arith, h, brought_small E m d)

inside-by : (b : Bool) (E : List (List ℕ)) (d : Data) (n : ℕ) → is_list d ≡ b → min (depth d) 33 ≤ n
    → n < 33 → min (visible_depth E (merged_pairs d)) 33 ≤ n - (if b then 2 else 1)
inside-by b E d n e h l = search (rules, visible_less, list_shallower, merged_shallower)

inside-test : (t : Bool) (E : List (List ℕ)) (d : Data) (n : ℕ) → (t ≡ true → n < 33)
    → (t ≡ false → 33 ≤ n) → min (depth d) 33 ≤ n →
    min (visible_depth E (merged_pairs d)) 33 ≤ (if t then n - (if is_list d then 2 else 1) else n)
inside-test t E d n f g h = search (rules, inside-by)

lt_true : (a b : ℕ) → nat_lt a b ≡ true → a < b
lt_true a b h = grind (arith, nat_tests)

lt_false : (a b : ℕ) → nat_lt a b ≡ false → b ≤ a
lt_false a b h = grind (arith, nat_tests)

-- what is inside a value that is merged
pub inside-bound : (E : List (List ℕ)) (d : Data) (n : ℕ) → min (depth d) 33 ≤ n
    → min (visible_depth E (merged_pairs d)) 33
    ≤ (if nat_lt n 33 then n - (if is_list d then 2 else 1) else n)
inside-bound E d n h = inside-test (nat_lt n 33) E d n (lt_true n 33) (lt_false n 33) h
