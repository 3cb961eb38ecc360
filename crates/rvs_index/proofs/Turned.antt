-- What expressions say by signs.
use Rattle.std.proofs.Common.{◌≡◌, ℕ, Bool, ◌&&◌, Option, Some, option_map}
use Rattle.std.proofs.Common.{IfSome, arith}
use Rattle.std.specs.Prelude.{ℤ}
use Rattle.rvs_expr_text.specs.declared.lexeme.RegName.{RegName}
use Rattle.rvs_expr_text.specs.declared.lexeme.NumName.TheVariants.{ImmVal}
use Rattle.rvs_expr.specs.declared.formula.Comparison.TheVariants.{Equal}
use Rattle.rvs_expr.specs.Typed.{Formula, conjunction, registers, Reg, reg_pair, reg_more}
use Rattle.rvs_expr.specs.Typed.{literal, named, numbers, pair, remainder}
use Rattle.rvs_expr.specs.Meaning.{Table, both, compare, equation, holds, is_true}
use Rattle.rvs_expr.specs.Meaning.{truth}
use Rattle.rvs_index.specs.Signs.{by_four, compares, relates, sign_at}

pub turned : (equal : Bool) (left right : RegName) (o : Option ℕ)
    → IfSome o (λ k. (t : Table) → relates equal (t.reg right) (t.reg left) ≡ sign_at k t)
    → IfSome o (λ k. (t : Table) → relates equal (t.reg left) (t.reg right) ≡ sign_at k t)
turned equal left right o h = grind arith

-- ---- two conditions
pub both_true : (a b : Option Bool) → is_true (both (λ x y. x && y) a b) ≡ (is_true a && is_true b)
both_true a b = grind arith

pub both_hold : (t : Table) (f g : Formula) → holds t (conjunction f g) ≡ (holds t f && holds t g)
both_hold t f g = both_true (truth t f) (truth t g)

pub reg_pair_says : (equal : Bool) (a b : Option ℕ)
    → is_true (option_map (λ (p : Bool × ℕ). p.0) (both (λ x y. (equation equal x y, y)) a b))
    ≡ relates equal a b
reg_pair_says equal a b = grind arith

pub reg_more_says : (e g : Bool) (a b c : Option ℕ)
    → is_true (option_map (λ (p : Bool × ℕ). p.0) (both
    (λ (p : Bool × ℕ) y. (p.0 && equation g p.1 y, y)) (both (λ x y. (equation e x y, y)) a b)
    c))
    ≡ (relates e a b && relates g b c)
reg_more_says e g a b c = grind arith

pub three_registers : (t : Table) (a b c : Reg) (e g : Bool)
    → holds t (registers (reg_more (reg_pair a e b) g c))
    ≡ (holds t (registers (reg_pair a e b)) && holds t (registers (reg_pair b g c)))
three_registers t a b c e g = simp (reg_more_says, reg_pair_says)

-- ---- a remainder by 4
rest_compares : (o : Option ℤ) (z : ℤ)
    → is_true (option_map (λ (p : Bool × ℤ). p.0) (both (λ x y. (compare Equal x y, y)) o (Some z)))
    ≡ compares Equal o (Some z)
rest_compares o z = grind arith

pub rest_says : (t : Table) (z : ℤ)
    → holds t (numbers (pair (remainder (named ImmVal) 4) Equal (literal z)))
    ≡ compares Equal (by_four (t.num ImmVal)) (Some z)
rest_says t z = rest_compares (by_four (t.num ImmVal)) z
