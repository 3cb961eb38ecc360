-- Formulas that say that a name has one value, and the size of constants.
use Rattle.std.proofs.Common.{◌≡◌, ◌≤◌, ◌^◌, Bool, Option, Some, option_map}
use Rattle.std.proofs.Common.{IfSome, List, [], ◌∷◌, All, arith, rules}
use Rattle.std.specs.Prelude.{nat_le, if◌then◌else◌, ℤ, unsigned_abs}
use Rattle.rvs_expr_text.specs.declared.lexeme.NumName.{NumName}
use Rattle.rvs_expr.specs.declared.formula.Comparison.TheVariants.{Equal}
use Rattle.rvs_expr.specs.Typed.{Num, named, pair, Formula, numbers}
use Rattle.rvs_expr.specs.Meaning.{Table, both, value, nothing, holds, is_true, compare}
use Rattle.rvs_expr.specs.Facts.{Extends}
use Rattle.rvs_expr.specs.Constants.{kept}
use Rattle.rvs_expr.specs.Equated.{equated, with_name, small, is_value}
use Rattle.rvs_expr.proofs.Meanings.{value-more}

-- every table has what the empty one has
anything : (t : Table) → Extends nothing t
anything t = record { reg = λ r n e. cc; num = λ m z e. cc }

constant-everywhere : (t : Table) (a : Num) (z : ℤ) → value nothing a ≡ Some z → value t a ≡ Some z
constant-everywhere t a z e = (value-more nothing t (anything t) a).same z e

small-is : (o : Option ℤ) (z : ℤ) → small o ≡ Some z → o ≡ Some z
small-is o z e = grind arith

named-is : (n m : NumName) (o : Option ℤ) (z : ℤ) → with_name n o ≡ Some (m, z) → n ≡ m
named-is n m o z e = grind arith

valued-is : (n m : NumName) (o : Option ℤ) (z : ℤ) → with_name n o ≡ Some (m, z) → o ≡ Some z
valued-is n m o z e = grind arith

compared-is : (o : Option ℤ) (z : ℤ)
    → is_true (option_map (λ (p : Bool × ℤ). p.0) (both (λ x y. (compare Equal x y, y)) o (Some z)))
    ≡ is_value z o
compared-is o z = grind arith

pair-is : (t : Table) (n m : NumName) (b : Num) (z : ℤ)
    → with_name n (small (value nothing b)) ≡ Some (m, z)
    → holds t (numbers (pair (named n) Equal b)) ≡ is_value z (t.num m)
pair-is t n m b z e =
    grind (arith, option_map, constant-everywhere, small-is, valued-is, compared-is, named-is)

pub equated_means : (f : Formula) (n : NumName) (z : ℤ) → equated f ≡ Some (n, z) → (t : Table)
    → holds t f ≡ is_value z (t.num n)
equated_means f n z e t = search (rules, pair-is)

pub some_means : (f : Formula) (o : Option (NumName × ℤ)) → o ≡ equated f
    → IfSome o (λ e. (t : Table) → holds t f ≡ is_value e.1 (t.num e.0))
some_means f o e = search (rules, equated_means)

-- ---- constants are small
one-small : (z : ℤ) (b : Bool) → nat_le (unsigned_abs z) (2 ^ 32) ≡ b
    → All (λ c. unsigned_abs c ≤ 2 ^ 32) (if b then z ∷ [] else [])
one-small z b e = grind arith

pub kept_small : (zs : List ℤ) → All (λ c. unsigned_abs c ≤ 2 ^ 32) (kept zs)
kept_small [] = λ k d l. absurd (grind arith)
kept_small (z ∷ zs) = grind (arith, one-small, (kept_small zs))
