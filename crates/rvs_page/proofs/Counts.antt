-- How many there are of either kind.
use Rattle.std.proofs.Common.{◌≡◌, ◌∙◌, ◌+◌, ℕ, Bool, true, false, cond, List, [], ◌∷◌, length}
use Rattle.std.proofs.Common.{Option, Some, None, refl, ap, arith, suc}
use Rattle.std.specs.Prelude.{count_by, is_none, is_some, not}
use Rattle.std.proofs.lemmas.List.Sums.{sum_by-cons}
use Rattle.rvs_page.specs.Shown.{is_tested, is_unsolved, is_hit, is_missed}
use Rattle.rvs_page.specs.declared.shown.Point.{Point}

one-of : (t : Bool) (m n k : ℕ) → m + n ≡ k
    → (cond t 1 0 + m) + (cond (not t) 1 0 + n) ≡ suc k
one-of true m n k e = omega (arith, e)
one-of false m n k e = omega (arith, e)

either : {X : Type 0} (f : X → Bool) (xs : List X)
    → count_by f xs + count_by (λ x. not (f x)) xs ≡ length xs
either f [] = refl
either f (x ∷ xs) =
    ap (λ n. n + count_by (λ y. not (f y)) (x ∷ xs)) (sum_by-cons (λ y. cond (f y) 1 0) x xs)
    ∙ ap (λ n. (cond (f x) 1 0 + count_by f xs) + n)
    (sum_by-cons (λ y. cond (not (f y)) 1 0) x xs)
    ∙ one-of (f x) (count_by f xs) (count_by (λ y. not (f y)) xs) (length xs) (either f xs)

none-is : (o : Option ℕ) → is_none o ≡ not (is_some o)
none-is None = refl
none-is (Some n) = refl

pub tested_or_not : (ps : List Point)
    → count_by is_tested ps + count_by is_unsolved ps ≡ length ps
tested_or_not ps =
    ap (λ (g : Point → Bool). count_by is_tested ps + count_by g ps) (λ i p. none-is p.case i)
    ∙ either is_tested ps

pub hit_or_not : (ps : List Point) → count_by is_missed ps + count_by is_hit ps ≡ length ps
hit_or_not ps = either is_missed ps
