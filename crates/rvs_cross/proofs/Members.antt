-- Members of lists.
use Rattle.std.proofs.Common.{◌≡◌, ◌≢◌, ℕ, zero, suc, ◌+◌, ◌<◌, ◌≤◌, Bool, true, false, ◌||◌, List}
use Rattle.std.proofs.Common.{[], ◌∷◌, ◌++◌, map, ◌⊎◌, inl, inr, refl, ap, ◌∙◌, arith}
use Rattle.std.specs.Prelude.{flat_map}
use Rattle.std.specs.List.{list_any, range_with_len}
use Rattle.std.proofs.lemmas.Bool.Decides.{eqb_tells}
use Rattle.std.proofs.lemmas.Bool.{or_left, or_right}

abbrev pub In : {X : Type 0} → X → List X → Type 0
In x [] = ⊥
In x (y ∷ ys) = (y ≡ x) ⊎ In x ys

pub by_test : {P : Type 0} (t : Bool) → (t ≡ true → P) → (t ≡ false → P) → P
by_test h e = grind arith

-- ---- tests

pub or_rest : (a b : Bool) → a ≡ false → (a || b) ≡ true → b ≡ true
or_rest a b h e = grind arith

pub in_any : {X : Type 0} (q : X → Bool) (x : X) (xs : List X) → In x xs → q x ≡ true
    → list_any q xs ≡ true
in_any q x [] i h = absurd i
in_any q x (y ∷ ys) (inl e) h = or_left (q y) (list_any q ys) (ap q e ∙ h)
in_any q x (y ∷ ys) (inr i) h = or_right (q y) (list_any q ys) (in_any q x ys i h)

pub record Passing {X : Type 0} (q : X → Bool) (xs : List X) : Type 0 where
  pub item : X
  pub among : In item xs
  pub passes : q item ≡ true

pub any_in : {X : Type 0} (q : X → Bool) (xs : List X) → list_any q xs ≡ true → Passing q xs
any_in q [] h = cc
any_in q (x ∷ xs) h =
    by_test (q x) (λ t. record { item = x; among = inl refl; passes = t })
    (λ f. let p = any_in q xs (or_rest (q x) (list_any q xs) f h) in
    record { item = p.item; among = inr p.among; passes = p.passes })

-- ---- lists of lists

pub in_left : {X : Type 0} (x : X) (xs ys : List X) → In x xs → In x (xs ++ ys)
in_left x [] ys i = absurd i
in_left x (z ∷ xs) ys (inl e) = inl e
in_left x (z ∷ xs) ys (inr i) = inr (in_left x xs ys i)

pub in_right : {X : Type 0} (x : X) (xs ys : List X) → In x ys → In x (xs ++ ys)
in_right x [] ys i = i
in_right x (z ∷ xs) ys i = inr (in_right x xs ys i)

pub in_either : {X : Type 0} (x : X) (xs ys : List X) → In x (xs ++ ys) → In x xs ⊎ In x ys
in_either x [] ys i = inr i
in_either x (z ∷ xs) ys (inl e) = inl (inl e)
in_either x (z ∷ xs) ys (inr i) = grind (arith, inl, inr, (in_either x xs ys i))

pub in_map : {X Y : Type 0} (f : X → Y) (x : X) (xs : List X) → In x xs → In (f x) (map f xs)
in_map f x [] i = absurd i
in_map f x (z ∷ xs) (inl e) = inl (ap f e)
in_map f x (z ∷ xs) (inr i) = inr (in_map f x xs i)

pub record Mapped {X Y : Type 0} (f : X → Y) (xs : List X) (y : Y) : Type 0 where
  pub item : X
  pub among : In item xs
  pub is : f item ≡ y

pub map_in : {X Y : Type 0} (f : X → Y) (xs : List X) (y : Y) → In y (map f xs) → Mapped f xs y
map_in f [] y i = absurd i
map_in f (x ∷ xs) y (inl e) = record { item = x; among = inl refl; is = e }
map_in f (x ∷ xs) y (inr i) = grind (arith, inr, (map_in f xs y i))

pub in_flat : {X Y : Type 0} (f : X → List Y) (x : X) (y : Y) (xs : List X) → In x xs → In y (f x)
    → In y (flat_map f xs)
in_flat f x y [] i j = absurd i
in_flat f x y (z ∷ xs) (inl e) j = grind (arith, in_left)
in_flat f x y (z ∷ xs) (inr i) j = in_right y (f z) (flat_map f xs) (in_flat f x y xs i j)

pub record Spread {X Y : Type 0} (f : X → List Y) (xs : List X) (y : Y) : Type 0 where
  pub item : X
  pub among : In item xs
  pub inner : In y (f item)

pub flat_in : {X Y : Type 0} (f : X → List Y) (xs : List X) (y : Y) → In y (flat_map f xs)
    → Spread f xs y
flat_in f [] y i = absurd i
flat_in f (x ∷ xs) y i =
    elim (in_either y (f x) (flat_map f xs) i) [
      | inl l ↦ record { item = x; among = inl refl; inner = l }
      | inr r ↦ let s = flat_in f xs y r in
          record { item = s.item; among = inr s.among; inner = s.inner }
    ]

-- ---- numbers

pub in_range : (r a n : ℕ) → a ≤ r → r < a + n → In r (range_with_len a n)
in_range r a zero h k = absurd (omega arith)
in_range r a (suc n) h k =
    elim (eqb_tells a r) [
      | inl e ↦ inl e.1
      | inr e ↦ inr (let ne : a ≢ r = e.1 in in_range r (a + 1) n (omega arith) (omega arith))
    ]
