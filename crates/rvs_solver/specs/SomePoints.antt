-- Points on an atomic row and on registers of a core with few, and the first choices that hit them.
use Rattle.std.specs.Prelude.{◌≡◌, ℕ, pos, negsuc, true, [], ◌∷◌, Some, None}
use Rattle.rvs_insn.specs.declared.op.Op.{Op}
use Rattle.rvs_insn.specs.declared.op.Op.TheVariants.{Add, AmoaddW}
use Rattle.rvs_insn.specs.Isa.{Isa}
use Rattle.rvs_insn.specs.Memory.{usual_memory}
use Rattle.rvs_expr_text.specs.declared.lexeme.NumName.TheVariants.{Rs1Val}
use Rattle.rvs_expr.specs.Typed.{Formula}
use Rattle.rvs_points.specs.declared.group.Kind.TheVariants.{Rd, ValComb}
use Rattle.rvs_points.specs.Points.{reg_is, nums}
use Rattle.rvs_solver.specs.Choices.{ChoiceValue}
use Rattle.rvs_solver.specs.First.{first_choice}
use Rattle.rvs_solver.specs.Rows.{is}

-- `rs1_val == -2130706432`, the word 0x81000000, and `rs1_val == 5`
abbrev pub address_point : Formula
address_point = is Rs1Val (negsuc 0x7eff_ffff)

abbrev pub other_point : Formula
other_point = is Rs1Val (pos 5)

-- `op xd, x2, x3` over these words, without an immediate
abbrev pub choice_at : Op → ℕ → ℕ → ℕ → ChoiceValue
choice_at op d w1 w2 =
    record {
      op = op;
      rd = Some d;
      rs1 = Some 2;
      rs2 = Some 3;
      imm = None;
      align = 0;
      w1 = w1;
      w2 = w2;
    }

-- where memory usually lies, rs1 of `amoadd.w` is the address of scratch
abbrev pub AtAddress : Type 0
AtAddress =
    (isa : Isa) → isa.memory ≡ usual_memory
    → first_choice isa (AmoaddW ∷ []) ValComb (nums address_point)
    ≡ Some (choice_at AmoaddW 1 0x8100_0000 1)

-- and nothing else
abbrev pub AtNoAddress : Type 0
AtNoAddress = (isa : Isa) → isa.memory ≡ usual_memory
    → first_choice isa (AmoaddW ∷ []) ValComb (nums other_point) ≡ None

-- under the base E x15 is the last register of `add`
abbrev pub LastRegister : Type 0
LastRegister =
    (isa : Isa) → isa.e ≡ true → first_choice isa (Add ∷ []) Rd (reg_is 15)
    ≡ Some (choice_at Add 15 1 1)

abbrev pub NoRegister : Type 0
NoRegister =
    (isa : Isa) → isa.e ≡ true → first_choice isa (Add ∷ []) Rd (reg_is 16) ≡ None
