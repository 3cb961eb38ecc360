-- What solves a point, by what it means.
use Rattle.std.proofs.Common.{◌≡◌, ℕ, ◌+◌, ◌≤◌, List, Option, Some, refl, arith}
use Rattle.std.specs.Prelude.{option_map, IfSome, IfNone, Result, IfOk}
use Rattle.rvs_base.specs.declared.memory_refusal.NoMemory.{NoMemory}
use Rattle.rvs_insn.specs.declared.op.Op.{Op}
use Rattle.rvs_insn.specs.Isa.{Isa}
use Rattle.rvs_points.specs.Points.{Meaning, Point}
use Rattle.rvs_points.specs.PointView.{meaning_view}
use Rattle.rvs_points.specs.declared.group.Kind.{Kind}
use Rattle.rvs_points.specs.declared.group.Meaning as declared
use Rattle.rvs_points.specs.declared.group.Meaning.TheVariants.{Window}
use Rattle.rvs_cross.specs.declared.cross.Cross.{Cross}
use Rattle.rvs_choice.specs.declared.solved.Solved.{Solved}
use Rattle.rvs_choice.specs.declared.solved.Solved.TheVariants.{One}
use Rattle.rvs_solver.specs.Choices.{ChoiceValue}
use Rattle.rvs_solver.specs.First.{first_choice, Solvable}
use Rattle.rvs_solver.specs.Bound.{bound}
use Rattle.rvs_solver.specs.Solving.{IsSingle, first_meant, IsLeastChoice, SolvesAs, IsSolvableAs}
use Rattle.rvs_solver.specs.Solving.{bound_meant}
use Rattle.rvs_solver.proofs.Answer.{is_least}

pub single_meaning : (m : declared.Meaning) → ((ps : Cross) → m ≡ Window ps → ⊥)
    → IsSingle (meaning_view m)
single_meaning (Window ps) h = absurd (h ps refl)
single_meaning _ h = tt

pub first_single : (spec : Isa) (ops : List Op) (k : Kind) (m : Meaning) → IsSingle m
    → option_map One (first_choice spec ops k m) ≡ first_meant spec ops k m
first_single spec ops k m single = grind arith

pub solves_single : (spec : Isa) (ops : List Op) (p : Point) (m : Meaning) (s : Option Solved)
    → IsSingle m → IfSome s (IsLeastChoice spec ops p) → IfSome s (SolvesAs spec ops p m)
solves_single spec ops p m s single h = grind arith

pub solvable_single : (spec : Isa) (ops : List Op) (k : Kind) (m : Meaning) (s : Option Solved)
    → IsSingle m → IfNone s (Solvable spec ops k m → ⊥) → IfNone s (IsSolvableAs spec ops k m → ⊥)
solvable_single spec ops k m s single h = grind arith

pub bound_single : (spec : Isa) (ops : List Op) (m : Meaning) (new old : ℕ) → IsSingle m
    → new ≤ old + bound spec ops m → new ≤ old + bound_meant spec ops m
bound_single spec ops m new old single h = grind arith

-- the first choice is the least
pub least_choice : (spec : Isa) (ops : List Op) (p : Point) (c : ChoiceValue)
    → Some c ≡ first_choice spec ops p.kind p.meaning → IsLeastChoice spec ops p (One c)
least_choice spec ops p c h = grind (arith, is_least)

-- ---- the same of an answer

pub ok_then : (P Q : Option Solved → Type 0) → ((o : Option Solved) → P o → Q o)
    → (r : Result (Option Solved) NoMemory) → IfOk r P → IfOk r Q
ok_then P Q h r p = grind arith
