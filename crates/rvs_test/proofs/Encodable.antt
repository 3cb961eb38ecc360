-- The fields of a choice are those of its format, and in range.
use Rattle.std.proofs.Common.{◌≡◌, ℕ, ◌<◌, true, false, Option, Some, None, arith}
use Rattle.std.specs.Prelude.{ℤ}
use Rattle.rvs_insn.specs.declared.op.Format.{Format}
use Rattle.rvs_insn.specs.declared.op.Format.TheVariants.{R, I, Shift, Load, JumpReg, Store, Branch}
use Rattle.rvs_insn.specs.declared.op.Format.TheVariants.{Upper, Jump, Fence}
use Rattle.rvs_insn.specs.declared.op.Format.TheVariants.{Amo, LoadReserved}
use Rattle.rvs_insn.specs.Word.{AreOf, FitsBits, FitsUnsigned}
use Rattle.rvs_test_text.specs.Sound.{has_case}
use Rattle.rvs_test.proofs.Ranges.{has_rd, has_rs1, has_rs2, IsField, IsDistance}

-- the immediates of a choice, by its format
abbrev pub IsImm : Format → Option ℤ → Type 0
IsImm R None = Unit {0}
IsImm Amo None = Unit {0}
IsImm LoadReserved None = Unit {0}
IsImm Fence None = Unit {0}
IsImm I (Some z) = FitsBits 12 z
IsImm Load (Some z) = FitsBits 12 z
IsImm Store (Some z) = FitsBits 12 z
IsImm JumpReg (Some z) = FitsBits 12 z
IsImm Shift (Some z) = FitsUnsigned 5 z
IsImm Upper (Some z) = FitsUnsigned 20 z
IsImm Branch (Some z) = IsDistance z
IsImm Jump (Some z) = IsDistance z
IsImm _ _ = ⊥

-- ---- a fact on three registers, by which of them are there

there : (P : Option ℕ → Type 0) (o : Option ℕ) → IsField true o → ((r : ℕ) → r < 32 → P (Some r))
    → P o
there P o h k = grind arith

gone : (P : Option ℕ → Type 0) (o : Option ℕ) → IsField false o → P None → P o
gone P o h k = grind arith

abbrev OfThree : Type 1
OfThree = Option ℕ → Option ℕ → Option ℕ → Type 0

no_register : (P : OfThree) (d a b : Option ℕ) → IsField false d → IsField false a
    → IsField false b → P None None None → P d a b
no_register P d a b p q r k = grind (arith, gone, None)

-- the fields of this format with this immediate
abbrev fields : Format → Option ℤ → OfThree
fields form imm = λ d a b. AreOf form d a b imm

pub encodable_by : (form : Format) (rd rs1 rs2 : Option ℕ) (imm : Option ℤ) → has_case form ≡ true
    → IsField (has_rd form) rd → IsField (has_rs1 form) rs1 → IsField (has_rs2 form) rs2
    → IsImm form imm → AreOf form rd rs1 rs2 imm
encodable_by form rd rs1 rs2 imm m p q r i = grind arith
