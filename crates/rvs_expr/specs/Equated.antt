-- Formulas that say that a name has one value.
use Rattle.std.specs.Prelude.{◌^◌, nat_le, Bool, false, ℤ, unsigned_abs, Option, Some, None}
use Rattle.std.specs.Prelude.{if◌then◌else◌}
use Rattle.std.specs.Ordering.{int_eq}
use Rattle.rvs_expr_text.specs.declared.lexeme.NumName.{NumName}
use Rattle.rvs_expr.specs.declared.formula.Comparison.TheVariants.{Equal}
use Rattle.rvs_expr.specs.Typed.{named, pair, Formula, numbers}
use Rattle.rvs_expr.specs.Meaning.{value, nothing}

-- one from -2 ^ 32 to 2 ^ 32
abbrev pub small_one : ℤ → Option ℤ
small_one z = if nat_le (unsigned_abs z) (2 ^ 32) then Some z else None

abbrev pub small : Option ℤ → Option ℤ
small None = None
small (Some z) = small_one z

abbrev pub with_name : NumName → Option ℤ → Option (NumName × ℤ)
with_name name None = None
with_name name (Some z) = Some (name, z)

-- the name and the constant of `name == constant`, within 2 ^ 32 either way
abbrev pub equated : Formula → Option (NumName × ℤ)
equated (numbers (pair (named name) Equal constant)) =
    with_name name (small (value nothing constant))
equated _ = None

-- there, and this number
abbrev pub is_value : ℤ → Option ℤ → Bool
is_value z None = false
is_value z (Some x) = int_eq x z
