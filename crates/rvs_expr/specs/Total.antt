-- The value of an expression where all its names are there, from lists of the values of all names.
use Rattle.std.specs.Prelude.{ℕ, Bool, not, ◌&&◌, ◌||◌, ℤ, pos, ◌+ℤ◌, ◌-ℤ◌, ◌*ℤ◌, neg_ℤ, List}
use Rattle.std.specs.Prelude.{slice_index_or}
use Rattle.std.specs.Int.{int_rem_euclid}
use Rattle.rvs_expr_text.specs.declared.lexeme.NumName.{NumName}
use Rattle.rvs_expr_text.specs.declared.lexeme.NumName.TheVariants.{Rs1Val, Rs2Val, ImmVal, EaAlign}
use Rattle.rvs_expr_text.specs.declared.lexeme.RegName.{RegName}
use Rattle.rvs_expr_text.specs.declared.lexeme.RegName.TheVariants.{Rd, Rs1, Rs2, Var0, Var1, Var2}
use Rattle.rvs_expr.specs.Typed.{Num, literal, named, minus, sum, difference, product, remainder}
use Rattle.rvs_expr.specs.Typed.{Reg, fixed, register, NumChain, pair, more, RegChain, reg_pair}
use Rattle.rvs_expr.specs.Typed.{reg_more, Formula, numbers, registers, negation, conjunction}
use Rattle.rvs_expr.specs.Typed.{disjunction}
use Rattle.rvs_expr.specs.Meaning.{compare, equation}

abbrev pub num_place : NumName → ℕ
num_place Rs1Val = 0
num_place Rs2Val = 1
num_place ImmVal = 2
num_place EaAlign = 3

abbrev pub reg_place : RegName → ℕ
reg_place Rd = 0
reg_place Rs1 = 1
reg_place Rs2 = 2
reg_place Var0 = 3
reg_place Var1 = 4
reg_place Var2 = 5

abbrev pub number : List ℤ → Num → ℤ
number zs (literal z) = z
number zs (named n) = slice_index_or zs (num_place n) (pos 0)
number zs (minus a) = neg_ℤ (number zs a)
number zs (sum a b) = number zs a +ℤ number zs b
number zs (difference a b) = number zs a -ℤ number zs b
number zs (product a b) = number zs a *ℤ number zs b
number zs (remainder a n) = int_rem_euclid (number zs a) (pos n)

abbrev pub last : List ℤ → NumChain → ℤ
last zs (pair a op b) = number zs b
last zs (more c op b) = number zs b

abbrev pub linked : List ℤ → NumChain → Bool
linked zs (pair a op b) = compare op (number zs a) (number zs b)
linked zs (more c op b) = linked zs c && compare op (last zs c) (number zs b)

abbrev pub reg_number : List ℕ → Reg → ℕ
reg_number ns (fixed n) = n
reg_number ns (register n) = slice_index_or ns (reg_place n) 0

abbrev pub last_reg : List ℕ → RegChain → ℕ
last_reg ns (reg_pair a op b) = reg_number ns b
last_reg ns (reg_more c op b) = reg_number ns b

abbrev pub reg_linked : List ℕ → RegChain → Bool
reg_linked ns (reg_pair a op b) = equation op (reg_number ns a) (reg_number ns b)
reg_linked ns (reg_more c op b) = reg_linked ns c && equation op (last_reg ns c) (reg_number ns b)

abbrev pub true_over : List ℤ → List ℕ → Formula → Bool
true_over zs ns (numbers c) = linked zs c
true_over zs ns (registers c) = reg_linked ns c
true_over zs ns (negation a) = not (true_over zs ns a)
true_over zs ns (conjunction a b) = true_over zs ns a && true_over zs ns b
true_over zs ns (disjunction a b) = true_over zs ns a || true_over zs ns b
