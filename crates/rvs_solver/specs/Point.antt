-- When a choice hits a point.
use Rattle.std.specs.Prelude.{ℤ, Bool, true, false, List, []}
use Rattle.rvs_expr.specs.Only.{only_numbers, only_registers}
use Rattle.rvs_points.specs.Points.{Meaning, op_is, reg_is, regs, nums, window}
use Rattle.rvs_points.specs.Hits.{is_meant}
use Rattle.rvs_points.specs.declared.group.Kind.{Kind}
use Rattle.rvs_solver.specs.Truth.{constants_in}
use Rattle.rvs_solver.specs.Choices.{ChoiceValue, table_of}

-- an instruction of its mnemonic and with its facts is what the point means
abbrev pub hits : Kind → Meaning → ChoiceValue → Bool
hits kind meaning c = is_meant kind meaning c.op (table_of c)

-- an expression on registers names no number, and one on numbers no register
abbrev pub is_valid : Meaning → Bool
is_valid (op_is op) = true
is_valid (reg_is r) = true
is_valid (regs e) = only_registers e
is_valid (nums e) = only_numbers e
is_valid (window ps) = true

-- the constants that join the values of operands
abbrev pub constants_of : Meaning → List ℤ
constants_of (nums e) = constants_in e
constants_of _ = []

abbrev pub is_on_values : Meaning → Bool
is_on_values (nums e) = true
is_on_values _ = false
