-- What a walk through registers goes through.
use Rattle.std.specs.Prelude.{ℕ, ◌*◌, Bool, List, length, Option}
use Rattle.rvs_insn.specs.Table.{row}
use Rattle.rvs_points.specs.PointView.{meaning_view}
use Rattle.rvs_points.specs.Hits.{steps_of}
use Rattle.rvs_solver.specs.declared.registers.RegisterSearch.{RegisterSearch}
use Rattle.rvs_solver.specs.Choices.{ChoiceValue}
use Rattle.rvs_solver.specs.Point.{hits}
use Rattle.rvs_solver.specs.Least.{at_rs1, at_rd}

-- the choice hits the point
abbrev pub hits_of : RegisterSearch → ChoiceValue → Bool
hits_of s = hits s.kind (meaning_view s.meaning.now)

-- the choices with one rd, and those with one rs1 too
abbrev pub with_rd : RegisterSearch → Option ℕ → List ChoiceValue
with_rd s = at_rd s.memory s.op (row s.op).form s.rs1s.now s.rs2s.now

abbrev pub with_rs1 : RegisterSearch → Option ℕ → Option ℕ → List ChoiceValue
with_rs1 s = at_rs1 s.memory s.op (row s.op).form s.rs2s.now

-- how often expressions are evaluated at most with one rs1, and with one rd
abbrev pub rs1_cost : RegisterSearch → ℕ
rs1_cost s = length s.rs2s.now * steps_of (meaning_view s.meaning.now)

abbrev pub rd_cost : RegisterSearch → ℕ
rd_cost s = length s.rs1s.now * rs1_cost s
