-- The point on a mnemonic takes the first registers.
use Rattle.std.proofs.Common.{◌≡◌, true, cond, [], ◌∷◌, map, Some, refl, sym, ap, ◌∙◌, append-nil}
use Rattle.std.specs.Prelude.{find}
use Rattle.rvs_insn.specs.declared.op.Format.TheVariants.{System}
use Rattle.rvs_insn.specs.declared.op.Op.{Op}
use Rattle.rvs_insn.specs.Isa.{Isa}
use Rattle.rvs_insn.specs.Table.{row}
use Rattle.std.proofs.lemmas.Bool.{eq-eqb}
use Rattle.rvs_facts.specs.Mnemonics.{number, is_same}
use Rattle.rvs_points.specs.declared.group.Kind.TheVariants.{Mnemonic}
use Rattle.rvs_points.specs.Points.{op_is}
use Rattle.rvs_solver.specs.Choices.{choices}
use Rattle.rvs_solver.specs.Point.{hits}
use Rattle.rvs_solver.specs.First.{first_choice}
use Rattle.rvs_solver.specs.Least.{least}
use Rattle.rvs_solver.specs.Bound.{first_registers}
use Rattle.rvs_solver.proofs.Product.{registers_begin}
use Rattle.rvs_solver.proofs.RegisterPoints.{register_is, by_registers}
use Rattle.rvs_solver.proofs.RegisterCalls.{has_choice}

pub first_of_mnemonic : (spec : Isa) (op : Op) → ((row op).form ≡ System → ⊥)
    → first_choice spec (op ∷ []) Mnemonic (op_is op)
    ≡ Some (least spec.memory op (row op).form (first_registers (row op).form))
first_of_mnemonic spec op h =
    let begins = registers_begin spec.e (row op).form in
    let hit : is_same op op ≡ true = eq-eqb (number op) (number op) refl in
    ap (find (hits Mnemonic (op_is op))) (append-nil (choices spec op []))
    ∙ register_is spec op Mnemonic (op_is op) (has_choice (row op).form h) refl refl
    ∙ ap (find (hits Mnemonic (op_is op)))
    (sym (by_registers spec.memory spec.e op (row op).form)
    ∙ ap (map (least spec.memory op (row op).form)) begins.is)
    ∙ ap (λ t. cond t (Some (least spec.memory op (row op).form (first_registers (row op).form)))
    (find (hits Mnemonic (op_is op)) (map (least spec.memory op (row op).form) begins.rest))) hit
