-- The names of an expression in a list, each at its place.
use Rattle.std.specs.Prelude.{ℕ, List, [], ◌∷◌, Option, None, slice_index_or}
use Rattle.rvs_insn.specs.Fields.{Fields}
use Rattle.rvs_expr.specs.Meaning.{Table}
use Rattle.rvs_expr.specs.Total.{reg_place}
use Rattle.rvs_cross.specs.Windows.{Values}

abbrev pub registers_of : Values → Fields → List (Option ℕ)
registers_of v i = i.rd ∷ i.rs1 ∷ i.rs2 ∷ v.first ∷ v.second ∷ v.third ∷ []

abbrev pub listed : List (Option ℕ) → Table
listed rs = record { reg = λ r. slice_index_or rs (reg_place r) None; num = λ _. None }
