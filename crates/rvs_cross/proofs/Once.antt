-- Lists that keep each element once, made by adding one element after another.
use Rattle.std.proofs.Common.{◌≡◌, ℕ, ◌+◌, ◌<◌, ◌≤◌, Bool, true, false, not, ◌&&◌, ◌||◌, List}
use Rattle.std.proofs.Common.{[], ◌∷◌, ◌++◌, length, get_or, drop, refl, sym, ap, ◌∙◌}
use Rattle.std.proofs.Common.{append_assoc, append-nil, arith, rules}
use Rattle.std.specs.Prelude.{filter, if◌then◌else◌}
use Rattle.std.specs.List.{list_any}
use Rattle.std.proofs.lemmas.Bool.{eqb-true, and_parts}
use Rattle.std.proofs.lemmas.List.{drop_all, drop_more}
use Rattle.std.proofs.lemmas.List.Folds.{list_any-append}
use Rattle.rvs_facts.specs.Mnemonics.{is_same}
use Rattle.rvs_cross.specs.declared.cross.Assignment.{Assignment}
use Rattle.rvs_cross.specs.Once.{each_once, with_one}
use Rattle.rvs_cross.specs.declared.cross.Field.{Field}
use Rattle.rvs_cross.specs.Variables.{same_set, same_field}
use Rattle.rvs_cross.proofs.Binding.{same_is}
use Rattle.rvs_cross.proofs.Members.{by_test, in_any, any_in}

pub record IsTransitive {X : Type 0} (same : X → X → Bool) : Type 0 where
  pub joins : (x y z : X) → same x y ≡ true → same y z ≡ true → same x z ≡ true

-- an element isn't kept yet
abbrev pub is_new : {X : Type 0} → (X → X → Bool) → List X → X → Bool
is_new same kept y = not (list_any (λ o. same o y) kept)

-- what is kept, and what the rest still adds to it
abbrev pub with_rest : {X : Type 0} → (X → X → Bool) → List X → List X → List X
with_rest same kept xs = kept ++ filter (is_new same kept) (each_once same xs)

-- ---- filters

filter_twice : {X : Type 0} (p q r : X → Bool) → ((y : X) → (q y && p y) ≡ r y) → (xs : List X)
    → filter p (filter q xs) ≡ filter r xs
filter_twice p q r h [] = refl
filter_twice p q r h (y ∷ ys) = grind (arith, (filter_twice p q r h ys))

all_pass : {X : Type 0} (xs : List X) → filter (λ y. true) xs ≡ xs
all_pass [] = refl
all_pass (x ∷ xs) = ap (λ l. x ∷ l) (all_pass xs)

-- ---- one element

hidden : (a b : Bool) → b ≡ true → (not a && not b) ≡ not b
hidden a b h = grind arith

-- what is the same as a kept element isn't new
covered : {X : Type 0} (same : X → X → Bool) → IsTransitive same → (kept : List X) (x : X)
    → list_any (λ o. same o x) kept ≡ true → (y : X)
    → (not (same x y) && is_new same kept y) ≡ is_new same kept y
covered same t kept x h y =
    by_test (same x y)
    (λ e. let p = any_in (λ o. same o x) kept h in
    hidden (same x y) (list_any (λ o. same o y) kept)
    (in_any (λ o. same o y) p.item kept p.among (t.joins p.item x y p.passes e)))
    (λ e. ap (λ b. not b && is_new same kept y) e)

by_both : (a b : Bool) → (not a && not b) ≡ not (b || (a || false))
by_both a b = grind arith

with_more : {X : Type 0} (same : X → X → Bool) (kept : List X) (x y : X)
    → (not (same x y) && is_new same kept y) ≡ is_new same (kept ++ x ∷ []) y
with_more same kept x y = simp (by_both, list_any-append)

with_next : {X : Type 0} (same : X → X → Bool) → IsTransitive same → (kept : List X) (x : X)
    (xs : List X) (b : Bool) → list_any (λ o. same o x) kept ≡ b
    → with_rest same (if b then kept else (kept ++ x ∷ [])) xs ≡ with_rest same kept (x ∷ xs)
with_next same kept x xs b h = search (rules, filter_twice, covered, append_assoc, with_more)

-- ---- a loop over a list

pub none_kept : {X : Type 0} (same : X → X → Bool) (kept xs : List X) → kept ≡ []
    → with_rest same kept xs ≡ each_once same xs
none_kept same kept xs e = ap (λ l. with_rest same l xs) e ∙ all_pass (each_once same xs)

pub turn : {X : Type 0} (same : X → X → Bool) → IsTransitive same → (xs : List X) (k : ℕ) (d : X)
    (kept next whole : List X) → k < length xs → with_rest same kept (drop k xs) ≡ whole
    → next ≡ with_one same kept (get_or xs k d) → with_rest same next (drop (k + 1) xs) ≡ whole
turn same t xs k d kept next whole h w e = grind (arith, with_next, drop_more)

pub all_kept : {X : Type 0} (same : X → X → Bool) (xs : List X) (k : ℕ) (kept whole : List X)
    → length xs ≤ k → with_rest same kept (drop k xs) ≡ whole → kept ≡ whole
all_kept same xs k kept whole h w = grind (arith, append-nil, drop_all)

-- ---- mnemonics and assignments

pub ops_join : IsTransitive is_same
ops_join = grind (arith, eqb-true)

pub field_is : (f g : Field) → same_field f g ≡ true → g ≡ f
field_is f g h = grind arith

set_is : (s t : Assignment) → same_set s t ≡ true → t ≡ s
set_is s t h = grind (arith, and_parts, same_is, field_is)

pub sets_join : IsTransitive same_set
sets_join = record { joins = λ x y z h k. ap (λ s. same_set s z) (sym (set_is x y h)) ∙ k }
