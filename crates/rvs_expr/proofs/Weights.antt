-- Measures of numbers and formulas: above those of each part by more than one.
use Rattle.std.specs.Prelude.{ℕ, ◌+◌}
use Rattle.rvs_expr.specs.Typed.{Num, literal, named, minus, sum, difference, product, remainder}
use Rattle.rvs_expr.specs.Typed.{Formula, numbers, registers, negation, conjunction, disjunction}

abbrev pub weight : Num → ℕ
weight (literal z) = 0
weight (named n) = 0
weight (minus a) = weight a + 2
weight (sum a b) = weight a + weight b + 2
weight (difference a b) = weight a + weight b + 2
weight (product a b) = weight a + weight b + 2
weight (remainder a n) = weight a + 2

abbrev pub formula_weight : Formula → ℕ
formula_weight (numbers c) = 0
formula_weight (registers c) = 0
formula_weight (negation a) = formula_weight a + 2
formula_weight (conjunction a b) = formula_weight a + formula_weight b + 2
formula_weight (disjunction a b) = formula_weight a + formula_weight b + 2
