-- A number without names has the same value over any values of names.
use Rattle.std.proofs.Common.{◌≡◌, Bool, true, false, ◌&&◌, List, [], Option, Some, None}
use Rattle.std.proofs.Common.{option_map, refl, ap, ◌∙◌}
use Rattle.std.specs.Prelude.{if◌then◌else◌, ℤ, pos, ◌+ℤ◌, ◌-ℤ◌, ◌*ℤ◌, neg_ℤ}
use Rattle.std.specs.Int.{int_rem_euclid}
use Rattle.rvs_expr.specs.Typed.{Num, literal, named, minus, sum, difference, product, remainder}
use Rattle.rvs_expr.specs.Meaning.{both, value, nothing}
use Rattle.rvs_expr.specs.Parts.{num_within}
use Rattle.rvs_expr.specs.Total.{number}

abbrev pub kept : {A : Type 0} → Bool → A → Option A
kept b x = if b then Some x else None

map-kept : {A B : Type 0} (f : A → B) (b : Bool) (x : A)
    → option_map f (kept b x) ≡ kept b (f x)
map-kept f true x = refl
map-kept f false x = refl

both-kept : {A B C : Type 0} (f : A → B → C) (b c : Bool) (x : A) (y : B)
    → both f (kept b x) (kept c y) ≡ kept (b && c) (f x y)
both-kept f false c x y = refl
both-kept f true false x y = refl
both-kept f true true x y = refl

map-by : {A B : Type 0} (f : A → B) (o : Option A) (b : Bool) (x : A) → o ≡ kept b x
    → option_map f o ≡ kept b (f x)
map-by f o b x e = ap (option_map f) e ∙ map-kept f b x

both-by : {A B C : Type 0} (f : A → B → C) (o : Option A) (p : Option B) (b c : Bool) (x : A)
    (y : B) → o ≡ kept b x → p ≡ kept c y → both f o p ≡ kept (b && c) (f x y)
both-by f o p b c x y d e =
    ap (λ q. both f q p) d ∙ ap (both f (kept b x)) e ∙ both-kept f b c x y

constant-kept : (zs : List ℤ) (n : Num) → value nothing n ≡ kept (num_within [] n) (number zs n)
constant-kept zs (literal z) = refl
constant-kept zs (named n) = refl
constant-kept zs (minus a) = map-by neg_ℤ _ _ _ (constant-kept zs a)
constant-kept zs (sum a b) =
    both-by (λ x y. x +ℤ y) _ _ _ _ _ _ (constant-kept zs a) (constant-kept zs b)
constant-kept zs (difference a b) =
    both-by (λ x y. x -ℤ y) _ _ _ _ _ _ (constant-kept zs a) (constant-kept zs b)
constant-kept zs (product a b) =
    both-by (λ x y. x *ℤ y) _ _ _ _ _ _ (constant-kept zs a) (constant-kept zs b)
constant-kept zs (remainder a n) =
    map-by (λ x. int_rem_euclid x (pos n)) _ _ _ (constant-kept zs a)

pub constant : (zs : List ℤ) (n : Num) (b : Bool) → num_within [] n ≡ b
    → value nothing n ≡ kept b (number zs n)
constant zs n b e = constant-kept zs n ∙ ap (λ a. kept a (number zs n)) e
