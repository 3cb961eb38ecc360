-- Points of which no two have one kind and key.
use Rattle.std.proofs.Common.{◌≡◌, ℕ, Bool, true, false, not, ◌&&◌, List, [], ◌∷◌, ◌++◌, refl, sym}
use Rattle.std.proofs.Common.{ap, ◌∙◌, bytes_eq}
use Rattle.std.proofs.lemmas.Bool.{and_from, and_left, or_from}
use Rattle.std.specs.Prelude.{◌||◌, if◌then◌else◌}
use Rattle.std.specs.List.{list_all}
use Rattle.std.proofs.lemmas.Cmp.{nat_list_eq_equiv}
use Rattle.rvs_points.specs.Points.{Point, has, is_point, same_kind}
use Rattle.rvs_points.specs.Valid.{are_distinct}
use Rattle.rvs_points.specs.declared.group.Kind.{Kind}
use Rattle.rvs_points.specs.declared.group.Kind.TheVariants.{Mnemonic}
use Rattle.rvs_points.proofs.SameKinds.{kind-sym, apart}

pub and-left : (x y : Bool) → (x && y) ≡ true → x ≡ true
and-left true y e = refl
and-left false y e = cc

pub and-right : (x y : Bool) → (x && y) ≡ true → y ≡ true
and-right true y e = e
and-right false y e = cc

pub or-left : (x y : Bool) → (x || y) ≡ false → x ≡ false
or-left true y e = cc
or-left false y e = refl

pub or-right : (x y : Bool) → (x || y) ≡ false → y ≡ false
or-right true y e = cc
or-right false y e = e

pub or-cases : {G : Type 0} (x y : Bool) → (x || y) ≡ true → (x ≡ true → G) → (y ≡ true → G) → G
or-cases true y e f g = f refl
or-cases false y e f g = g e

pub both-ways : {G : Type 0} (b : Bool) → b ≡ true → b ≡ false → G
both-ways true e f = cc
both-ways false e f = cc

pub or-assoc : (a b c : Bool) → (a || (b || c)) ≡ ((a || b) || c)
or-assoc true b c = refl
or-assoc false b c = refl

pub if-yes : {A : Type 0} (b : Bool) (x y : A) → b ≡ true → (if b then x else y) ≡ x
if-yes true x y e = refl
if-yes false x y e = cc

pub if-no : {A : Type 0} (b : Bool) (x y : A) → b ≡ false → (if b then x else y) ≡ y
if-no true x y e = cc
if-no false x y e = refl

pub no : (b : Bool) → not b ≡ true → b ≡ false
no true e = cc
no false e = refl

bytes-sym : (x y : List ℕ) → bytes_eq x y ≡ bytes_eq y x
bytes-sym x y = nat_list_eq_equiv.symm x y

pub point-sym : (p q : Point) → is_point p.kind p.key q ≡ is_point q.kind q.key p
point-sym p q = ap (λ b. b && bytes_eq q.key p.key) (kind-sym q.kind p.kind)
    ∙ ap (λ b. same_kind p.kind q.kind && b) (bytes-sym q.key p.key)

pub has-append : (k : Kind) (key : List ℕ) (xs ys : List Point)
    → has k key (xs ++ ys) ≡ (has k key xs || has k key ys)
has-append k key [] ys = refl
has-append k key (x ∷ xs) ys = ap (λ b. is_point k key x || b) (has-append k key xs ys)
    ∙ or-assoc (is_point k key x) (has k key xs) (has k key ys)

-- a point that isn't there may stand anywhere
pub distinct_insert : (ps qs : List Point) (p : Point) → are_distinct (ps ++ qs) ≡ true
    → has p.kind p.key ps ≡ false → has p.kind p.key qs ≡ false → are_distinct (ps ++ p ∷ qs) ≡ true
distinct_insert [] qs p d h k = and_from (not (has p.kind p.key qs)) (are_distinct qs) (ap not k) d
distinct_insert (q ∷ ps) qs p d h k =
    let whole : (has q.kind q.key ps || has q.kind q.key qs) ≡ false = sym
    (has-append q.kind q.key ps qs) ∙ no (has q.kind q.key (ps ++ qs))
    (and-left (not (has q.kind q.key (ps ++ qs))) (are_distinct (ps ++ qs)) d) in
    let own : is_point q.kind q.key p ≡ false =
    point-sym q p ∙ or-left (is_point p.kind p.key q) (has p.kind p.key ps) h in
    let none : has q.kind q.key (ps ++ p ∷ qs) ≡ false =
    has-append q.kind q.key ps (p ∷ qs)
    ∙ or_from (has q.kind q.key ps) (is_point q.kind q.key p || has q.kind q.key qs)
    (or-left (has q.kind q.key ps) (has q.kind q.key qs) whole)
    (or_from (is_point q.kind q.key p) (has q.kind q.key qs) own
    (or-right (has q.kind q.key ps) (has q.kind q.key qs) whole)) in
    and_from (not (has q.kind q.key (ps ++ p ∷ qs))) (are_distinct (ps ++ p ∷ qs)) (ap not none)
    (distinct_insert ps qs p
    (and-right (not (has q.kind q.key (ps ++ qs))) (are_distinct (ps ++ qs)) d)
    (or-right (is_point p.kind p.key q) (has p.kind p.key ps) h) k)

abbrev pub is_mnemonic : Point → Bool
is_mnemonic p = same_kind p.kind Mnemonic

-- a point of another kind is none of the mnemonics
pub no-mnemonic : (first : List Point) (p : Point) → same_kind p.kind Mnemonic ≡ false
    → list_all is_mnemonic first ≡ true → has p.kind p.key first ≡ false
no-mnemonic [] p other mains = refl
no-mnemonic (q ∷ qs) p other mains =
    or_from (is_point p.kind p.key q) (has p.kind p.key qs)
    (and_left (same_kind q.kind p.kind) (bytes_eq q.key p.key)
    (apart q.kind p.kind (and-left (is_mnemonic q) (list_all is_mnemonic qs) mains) other))
    (no-mnemonic qs p other (and-right (is_mnemonic q) (list_all is_mnemonic qs) mains))
