-- What has the shape of another and other parts.
use Rattle.rvs_expr.specs.Typed.{Num, sum, difference, product}
use Rattle.rvs_expr.specs.Typed.{Formula, conjunction, disjunction}

abbrev pub with_parts : Num → Num → Num → Num
with_parts (sum a b) left right = sum left right
with_parts (difference a b) left right = difference left right
with_parts _ left right = product left right

abbrev pub with_formulas : Formula → Formula → Formula → Formula
with_formulas (conjunction a b) left right = conjunction left right
with_formulas _ left right = disjunction left right
