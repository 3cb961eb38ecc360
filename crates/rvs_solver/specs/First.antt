-- The first choice that hits a point.
use Rattle.std.specs.Prelude.{◌≡◌, ◌<◌, Bool, true, false, ℕ, ℤ, List, Option, Some, flat_map, find}
use Rattle.std.specs.Prelude.{slice_get, Contains}
use Rattle.rvs_insn.specs.declared.op.Op.{Op}
use Rattle.rvs_insn.specs.Isa.{Isa}
use Rattle.rvs_points.specs.declared.group.Kind.{Kind}
use Rattle.rvs_points.specs.Points.{Meaning}
use Rattle.rvs_solver.specs.Choices.{ChoiceValue, choices}
use Rattle.rvs_solver.specs.Point.{hits, constants_of}

-- the choices for a point over some mnemonics, in their order
abbrev pub all_choices : Isa → List Op → List ℤ → List ChoiceValue
all_choices spec ops constants = flat_map (λ op. choices spec op constants) ops

-- the least by its place
abbrev pub first_choice : Isa → List Op → Kind → Meaning → Option ChoiceValue
first_choice spec ops kind meaning =
    find (hits kind meaning) (all_choices spec ops (constants_of meaning))

-- it passes a test, and stands at a place before which nothing does
pub record IsFirstOf {X : Type 0} (p : X → Bool) (xs : List X) (x : X) : Type 0 where
  pub place : ℕ
  pub here : slice_get xs place ≡ Some x
  pub passes : p x ≡ true
  pub before : (k : ℕ) (y : X) → k < place → slice_get xs k ≡ Some y → p y ≡ false

-- the choice hits the point, and none before it does
abbrev pub IsLeast : Isa → List Op → Kind → Meaning → ChoiceValue → Type 0
IsLeast spec ops kind meaning =
    IsFirstOf (hits kind meaning) (all_choices spec ops (constants_of meaning))

-- some choice hits the point
abbrev pub Solvable : Isa → List Op → Kind → Meaning → Type 0
Solvable spec ops kind meaning =
    (c : ChoiceValue) × Contains (all_choices spec ops (constants_of meaning)) c × (hits kind
    meaning c ≡ true)

-- the words of a choice can stand in its registers at once
pub record HasOneWordEach (c : ChoiceValue) : Type 0 where
  pub first_zero : c.rs1 ≡ Some 0 → c.w1 ≡ 0
  pub second_zero : c.rs2 ≡ Some 0 → c.w2 ≡ 0
  pub same : (r : ℕ) → c.rs1 ≡ Some r → c.rs2 ≡ Some r → c.w1 ≡ c.w2
