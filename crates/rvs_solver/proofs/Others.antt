-- Where a point asks for another register, nothing is found at this one.
use Rattle.std.proofs.Common.{◌≡◌, ℕ, true, List, Option, None, sym, rules}
use Rattle.std.specs.Prelude.{find}
use Rattle.rvs_points.proofs.Distinct.{no}
use Rattle.rvs_insn.specs.declared.op.Format.{Format}
use Rattle.rvs_insn.specs.declared.op.Op.{Op}
use Rattle.rvs_insn.specs.Memory.{Memory}
use Rattle.rvs_points.specs.declared.group.Kind.{Kind}
use Rattle.rvs_points.specs.declared.group.Kind.TheVariants.{Rd}
use Rattle.rvs_points.specs.Points.{Meaning}
use Rattle.rvs_points.specs.Points.{reg_is}
use Rattle.rvs_points.specs.Hits.{is_register}
use Rattle.rvs_solver.specs.Point.{hits}
use Rattle.rvs_solver.specs.Least.{least, at_rs1, at_rd, asks_other_rd, asks_other_rs1}
use Rattle.rvs_solver.proofs.Search.{all_none}
use Rattle.rvs_solver.proofs.Product.{each_any}
use Rattle.rvs_solver.proofs.Operands.{none_of_map}

pub other_rd : (kind : Kind) (meaning : Meaning) (memory : Memory) (op : Op) (form : Format)
    (rs1s rs2s : List (Option ℕ)) (rd : Option ℕ) → asks_other_rd kind meaning rd ≡ true
    → None ≡ find (hits kind meaning) (at_rd memory op form rs1s rs2s rd)
other_rd Rd (reg_is r) memory op form rs1s rs2s rd h =
    sym (all_none (hits Rd (reg_is r)) (at_rs1 memory op form rs2s rd) (λ x. Unit {0})
    (λ rs1 u. none_of_map (hits Rd (reg_is r))
    (λ rs2. least memory op form (record { rd = rd; rs1 = rs1; rs2 = rs2 }))
    (λ rs2. no (is_register r rd) h) rs2s) rs1s (each_any rs1s))
other_rd _ _ memory op form rs1s rs2s rd h = cc

pub other_rs1 : (kind : Kind) (meaning : Meaning) (memory : Memory) (op : Op) (form : Format)
    (rs2s : List (Option ℕ))
    (rd rs1 : Option ℕ) → asks_other_rs1 kind meaning rs1 ≡ true
    → None ≡ find (hits kind meaning) (at_rs1 memory op form rs2s rd rs1)
other_rs1 kind meaning memory op form rs2s rd rs1 h = search (rules, none_of_map, no)
