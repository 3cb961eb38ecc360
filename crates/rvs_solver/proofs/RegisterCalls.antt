-- The same for the search of a point on registers.
use Rattle.std.proofs.Common.{◌≡◌, ℕ, ◌*◌, ◌≤◌, true, false, List, [], length, Option, refl, sym}
use Rattle.std.proofs.Common.{ap, ◌∙◌, arith}
use Rattle.std.specs.Prelude.{find, flat_map}
use Rattle.rvs_insn.specs.declared.op.Format.{Format}
use Rattle.rvs_insn.specs.declared.op.Format.TheVariants.{System}
use Rattle.rvs_insn.specs.declared.op.Op.{Op}
use Rattle.rvs_insn.specs.Isa.{Isa}
use Rattle.rvs_insn.specs.Table.{row}
use Rattle.rvs_points.specs.declared.group.Kind.{Kind}
use Rattle.rvs_points.specs.Points.{Meaning}
use Rattle.rvs_points.specs.Hits.{steps_of}
use Rattle.rvs_solver.specs.Datasets.{rds, rs1s, rs2s}
use Rattle.rvs_solver.specs.Choices.{choices}
use Rattle.rvs_solver.specs.Point.{hits, is_valid, is_on_values}
use Rattle.rvs_solver.specs.Bound.{bound_of, register_bound}
use Rattle.rvs_solver.specs.Least.{at_rd}
use Rattle.rvs_solver.proofs.RegisterPoints.{register_is, not_system}

pub has_choice : (form : Format) → (form ≡ System → ⊥) → not_system form ≡ true
unfolding not_system
has_choice System h = absurd (h refl)
has_choice _ h = refl

-- the orders that the code holds
pub record Orders (spec : Isa) (op : Op) (form : Format) (a b d : List (Option ℕ)) : Type 0 where
  pub form_is : form ≡ (row op).form
  pub rds_are : a ≡ rds spec.e form
  pub rs1s_are : b ≡ rs1s spec.e form
  pub rs2s_are : d ≡ rs2s spec.e form
  pub not_none : form ≡ System → ⊥

same_orders : (spec : Isa) (op : Op) (form : Format) (a b d : List (Option ℕ))
    → Orders spec op form a b d → {K : Type 0}
    → (f : List (Option ℕ) → List (Option ℕ) → List (Option ℕ) → K)
    → f a b d ≡ f (rds spec.e (row op).form) (rs1s spec.e (row op).form) (rs2s spec.e (row op).form)
same_orders spec op form a b d o f = grind arith

pub register_call : (spec : Isa) (op : Op) (form : Format) (a b d : List (Option ℕ)) (kind : Kind)
    (meaning : Meaning) → Orders spec op form a b d → is_valid meaning ≡ true
    → is_on_values meaning ≡ false → find (hits kind meaning)
    (flat_map (at_rd spec.memory op (row op).form b d) a)
    ≡ find (hits kind meaning) (choices spec op [])
register_call spec op form a b d kind meaning o valid not_values =
    same_orders spec op form a b d o
    (λ x y z. find (hits kind meaning) (flat_map (at_rd spec.memory op (row op).form y z) x))
    ∙ sym (register_is spec op kind meaning
    (ap not_system (sym o.form_is) ∙ has_choice form o.not_none) valid not_values)

bound_is : (spec : Isa) (form : Format) → not_system form ≡ true
    → register_bound spec form ≡ length
    (rds spec.e form) * (length (rs1s spec.e form) * length (rs2s spec.e form))
unfolding not_system
bound_is spec System h = cc
bound_is spec _ h = refl

pub register_cost_call : (spec : Isa) (op : Op) (form : Format) (a b d : List (Option ℕ))
    (meaning : Meaning) → Orders spec op form a b d → is_on_values meaning ≡ false
    → length a * (length b * (length d * steps_of meaning)) ≤ bound_of spec meaning op
register_cost_call spec op form a b d meaning o not_values = grind arith
