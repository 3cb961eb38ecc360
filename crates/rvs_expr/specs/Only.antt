-- Which names stand in a formula, and what its conjuncts over some names say.
use Rattle.std.specs.Prelude.{Bool, true, false, ◌&&◌, if◌then◌else◌, List}
use Rattle.rvs_expr_text.specs.declared.lexeme.NumName.{NumName}
use Rattle.rvs_expr.specs.Typed.{Formula, numbers, registers, negation, conjunction, disjunction}
use Rattle.rvs_expr.specs.Meaning.{Table, holds}
use Rattle.rvs_expr.specs.Parts.{within}

-- no chain of registers stands in it
abbrev pub only_numbers : Formula → Bool
only_numbers (numbers c) = true
only_numbers (registers c) = false
only_numbers (negation a) = only_numbers a
only_numbers (conjunction a b) = only_numbers a && only_numbers b
only_numbers (disjunction a b) = only_numbers a && only_numbers b

-- no chain of numbers stands in it
abbrev pub only_registers : Formula → Bool
only_registers (numbers c) = false
only_registers (registers c) = true
only_registers (negation a) = only_registers a
only_registers (conjunction a b) = only_registers a && only_registers b
only_registers (disjunction a b) = only_registers a && only_registers b

-- every conjunct all of whose names are among these is true
abbrev pub holds_within : List NumName → Table → Formula → Bool
holds_within ns t (conjunction a b) = holds_within ns t a && holds_within ns t b
holds_within ns t f = if within ns f then holds t f else true
