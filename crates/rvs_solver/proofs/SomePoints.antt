-- The first choices of some points.
use Rattle.std.proofs.Common.{◌≡◌, ℕ, true, [], ◌∷◌, Option, Some, None, refl, ap, sym, ◌∙◌, subst}
use Rattle.std.proofs.Common.{append-nil, arith}
use Rattle.std.specs.Prelude.{find, flat_map}
use Rattle.rvs_insn.specs.declared.op.Format.TheVariants.{R}
use Rattle.rvs_insn.specs.declared.op.Op.TheVariants.{Add, AmoaddW}
use Rattle.rvs_insn.specs.Isa.{Isa}
use Rattle.rvs_insn.specs.Memory.{Memory, usual_memory}
use Rattle.rvs_points.specs.declared.group.Kind.TheVariants.{Rd, ValComb}
use Rattle.rvs_points.specs.Points.{reg_is, nums}
use Rattle.rvs_solver.specs.Truth.{holds, constants_in}
use Rattle.rvs_solver.specs.Datasets.{dataset, with_number, is_between, is_there, around}
use Rattle.rvs_solver.specs.Datasets.{rds, rs1s, rs2s}
use Rattle.rvs_solver.specs.Choices.{choices, ChoiceValue}
use Rattle.rvs_solver.specs.Point.{hits}
use Rattle.rvs_solver.specs.First.{first_choice}
use Rattle.rvs_solver.specs.Least.{at_rd}
use Rattle.rvs_solver.specs.SomePoints.{address_point, other_point, AtAddress, AtNoAddress}
use Rattle.rvs_solver.specs.SomePoints.{LastRegister, NoRegister, choice_at}
use Rattle.rvs_solver.proofs.RegisterPoints.{register_is}
use Rattle.rvs_solver.proofs.RegisterCalls.{has_choice}
use Rattle.rvs_solver.proofs.Stores.{search_is}

-- ---- an atomic row has the word of its address in rs1, and no other

-- the same by a core's memory alone
abbrev with_memory : Isa → Memory → Isa
with_memory isa memory = record isa { memory = memory }

pub at_address : AtAddress
unfolding holds constants_in dataset with_number is_between is_there around
at_address isa usual =
    subst (λ m. first_choice (with_memory isa m) (AmoaddW ∷ []) ValComb (nums address_point)
    ≡ Some (choice_at AmoaddW 1 0x8100_0000 1)) (sym usual)
    (ap (find (hits ValComb (nums address_point)))
    (append-nil (choices (with_memory isa usual_memory) AmoaddW (constants_in address_point)))
    ∙ search_is (with_memory isa usual_memory) AmoaddW address_point (constants_in address_point)
    refl)

pub at_no_address : AtNoAddress
unfolding holds constants_in dataset with_number is_between is_there around
at_no_address isa usual =
    subst (λ m. first_choice (with_memory isa m) (AmoaddW ∷ []) ValComb (nums other_point)
    ≡ None) (sym usual)
    (ap (find (hits ValComb (nums other_point)))
    (append-nil (choices (with_memory isa usual_memory) AmoaddW (constants_in other_point)))
    ∙ search_is (with_memory isa usual_memory) AmoaddW other_point (constants_in other_point) refl)

-- ---- under the base E the registers end with x15

of_few : (isa : Isa) (r : ℕ) (o : Option ChoiceValue) → isa.e ≡ true
    → find (hits Rd (reg_is r)) (flat_map (at_rd isa.memory Add R (rs1s true R) (rs2s true R))
    (rds true R))
    ≡ o
    → first_choice isa (Add ∷ []) Rd (reg_is r) ≡ o
of_few isa r o e h = grind (arith, append-nil, register_is, has_choice)

pub last_register : LastRegister
unfolding rds rs1s rs2s
last_register isa e = of_few isa 15 (Some (choice_at Add 15 1 1)) e refl

pub no_register : NoRegister
unfolding rds rs1s rs2s
no_register isa e = of_few isa 16 None e refl
