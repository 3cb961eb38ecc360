-- What the search of a value point asks of its expression. The words are closed, so that goals stay
-- short.
use Rattle.std.specs.Prelude.{◌≤◌, ◌^◌, ℤ, unsigned_abs, Bool, List, Option}
use Rattle.rvs_expr_text.specs.declared.lexeme.NumName.{NumName}
use Rattle.rvs_expr.specs.Typed.{Formula}
use Rattle.rvs_expr.specs.Meaning as meaning
use Rattle.rvs_expr.specs.Meaning.{Table}
use Rattle.rvs_expr.specs.Constants.{formula_numerals, kept}
use Rattle.rvs_expr.specs.Only as only
use Rattle.rvs_expr.specs.Parts as parts
pub use Rattle.rvs_choice.specs.Choice.{IsNarrow}

-- every name is there, and the value is true
unfoldable pub holds : Formula → Table → Bool
holds e t = meaning.holds t e

-- the name stands in it
unfoldable pub uses : Formula → NumName → Bool
uses e name = parts.uses e name

-- the constants that join the values of operands
unfoldable pub constants_in : Formula → List ℤ
constants_in e = kept (formula_numerals e)

-- the conjunction of the conjuncts that name nothing but these, where there is one
unfoldable pub part_of : List NumName → Formula → Option Formula
part_of names e = parts.part names e

-- every conjunct that names nothing but these is true
unfoldable pub holds_within : List NumName → Formula → Table → Bool
holds_within names e t = only.holds_within names t e

abbrev pub num_at : Table → NumName → Option ℤ
num_at t name = t.num name

abbrev pub IsShort : ℤ → Type 0
IsShort z = unsigned_abs z ≤ 2 ^ 20
