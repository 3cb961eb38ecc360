-- What solves a point of a label.
use Rattle.std.specs.Prelude.{◌≡◌, ℕ, true, List, length, map, Option, Some, None, option_map}
use Rattle.std.specs.Prelude.{option_and_then, slice_get, sum_by, All}
use Rattle.rvs_insn.specs.declared.op.Op.{Op}
use Rattle.rvs_insn.specs.Isa.{Isa}
use Rattle.rvs_insn.specs.Fields.{Fields}
use Rattle.rvs_cross.specs.Cross.{Place}
use Rattle.rvs_cross.specs.Windows.{matches}
use Rattle.rvs_sequences.specs.Sequences.{IsComputing, first_sequence}
use Rattle.rvs_sequences.specs.Sequences as cross
use Rattle.rvs_points.specs.Points.{Meaning, window, Point, Label}
use Rattle.rvs_points.specs.declared.group.Kind.{Kind}
use Rattle.rvs_choice.specs.declared.solved.Solved.{Solved}
use Rattle.rvs_choice.specs.declared.solved.Solved.TheVariants.{One, Many}
use Rattle.rvs_solver.specs.Choices.{ChoiceValue}
use Rattle.rvs_solver.specs.First.{first_choice, IsLeast, Solvable, HasOneWordEach}
use Rattle.rvs_solver.specs.Bound.{bound}

-- what one instruction hits
abbrev pub IsSingle : Meaning → Type 0
IsSingle (window ps) = ⊥
IsSingle m = Unit {0}

-- the first choice over some mnemonics that hits a point, or the first instructions that match a
-- cross point, whatever these mnemonics are
abbrev pub first_meant : Isa → List Op → Kind → Meaning → Option Solved
first_meant spec ops k (window ps) = option_map Many (first_sequence spec ps)
first_meant spec ops k m = option_map One (first_choice spec ops k m)

abbrev pub first_of_point : Isa → Label → Point → Option Solved
first_of_point spec l p = first_meant spec l.ops p.kind p.meaning

abbrev pub first_at : Isa → Label → ℕ → Option Solved
first_at spec l k = option_and_then (first_of_point spec l) (slice_get l.points k)

-- it is one choice, the least by its place of those that hit the point
pub record IsLeastChoice (spec : Isa) (ops : List Op) (p : Point) (s : Solved) : Type 0 where
  pub choice : ChoiceValue
  pub one : s ≡ One choice
  pub least : IsLeast spec ops p.kind p.meaning choice

-- it is one instruction for each place of a cross point; the core admits them, they compute in x8
-- to x15, and they match
pub record IsWindow (spec : Isa) (ps : List Place) (s : Solved) : Type 0 where
  pub insns : List Fields
  pub many : s ≡ Many insns
  pub as_many : length insns ≡ length ps
  pub computing : All (IsComputing spec) insns
  pub matching : matches ps (map (λ i. Some i) insns) ≡ true

abbrev pub SolvesAs : Isa → List Op → Point → Meaning → Solved → Type 0
SolvesAs spec ops p (window ps) s = IsWindow spec ps s
SolvesAs spec ops p m s = IsLeastChoice spec ops p s

pub record IsLeastAt (spec : Isa) (l : Label) (k : ℕ) (s : Solved) : Type 0 where
  pub point : Point
  pub is : slice_get l.points k ≡ Some point
  pub solves : SolvesAs spec l.ops point point.meaning s

-- some choice hits it, or some instructions match it
abbrev pub IsSolvableAs : Isa → List Op → Kind → Meaning → Type 0
IsSolvableAs spec ops k (window ps) = cross.Solvable spec ps
IsSolvableAs spec ops k m = Solvable spec ops k m

abbrev pub IsSolvable : Isa → Label → Point → Type 0
IsSolvable spec l p = IsSolvableAs spec l.ops p.kind p.meaning

pub record IsSolvableAt (spec : Isa) (l : Label) (k : ℕ) : Type 0 where
  pub point : Point
  pub is : slice_get l.points k ≡ Some point
  pub solvable : IsSolvable spec l point

-- the most evaluations that one point of a label takes, and that all its points take
abbrev pub bound_meant : Isa → List Op → Meaning → ℕ
bound_meant spec ops (window ps) = cross.bound spec ps
bound_meant spec ops m = bound spec ops m

abbrev pub bound_of_point : Isa → Label → Point → ℕ
bound_of_point spec l p = bound_meant spec l.ops p.meaning

abbrev pub bound_or_none : Isa → Label → Option Point → ℕ
bound_or_none spec l None = 0
bound_or_none spec l (Some p) = bound_of_point spec l p

abbrev pub bound_at : Isa → Label → ℕ → ℕ
bound_at spec l k = bound_or_none spec l (slice_get l.points k)

abbrev pub bound_of_label : Isa → Label → ℕ
bound_of_label spec l = sum_by (bound_of_point spec l) l.points

-- the words of what solves a point can stand in its registers at once
abbrev pub HaveOneWordEach : Solved → Type 0
HaveOneWordEach (One c) = HasOneWordEach c
HaveOneWordEach (Many is) = Unit {0}
