-- The registers that a core has, and that a test's own instructions over them are of that core.
use Rattle.std.proofs.Common.{◌≡◌, ℕ, ◌<◌, Bool, true, Option, Some, None, refl}
use Rattle.std.proofs.Common.{◌≤◌, arith}
use Rattle.std.specs.Prelude.{◌&&◌, ◌||◌, not, ℤ, unwrap_or}
use Rattle.rvs_insn.specs.declared.op.Op.{Op}
use Rattle.rvs_insn.specs.declared.op.Format.{Format}
use Rattle.rvs_insn.specs.Isa.{Isa}
use Rattle.rvs_insn.specs.Table.{row}
use Rattle.rvs_insn.specs.Fields.{Fields, IsRegister}
use Rattle.rvs_insn.specs.Word.{AreOf, IsEncodable}
use Rattle.rvs_insn.specs.Names.{is_admitted, is_admitted_op, is_m, is_a, is_low_register}
use Rattle.rvs_test_text.specs.Statements.{lui, addi}
use Rattle.rvs_test_text.specs.TestText.{sw, lw, jal}
use Rattle.rvs_test_text.proofs.Chars.{both}

-- one of the 32, and under the base E one of the first 16
pub record Has (isa : Isa) (r : ℕ) : Type 0 where
  pub low : r < 32
  pub few : isa.e ≡ true → r < 16

abbrev pub HasField : Isa → Option ℕ → Type 0
HasField isa None = Unit {0}
HasField isa (Some r) = Has isa r

-- each core has the first 16
pub has_low : (isa : Isa) (r : ℕ) → r < 16 → Has isa r
has_low isa r h = record { low = omega arith; few = λ e. h }

pub has_zero : (isa : Isa) → Has isa 0
has_zero isa = has_low isa 0 (omega arith)

pub has_or_zero : (isa : Isa) (r : Option ℕ) → HasField isa r → Has isa (unwrap_or r 0)
has_or_zero isa r h = grind arith

-- ---- what such registers are to the test of what a core admits
abbrev are_low : Option ℕ → Option ℕ → Option ℕ → Bool
are_low rd rs1 rs2 = is_low_register rd && is_low_register rs1 && is_low_register rs2

abbrev IsLowIn : Bool → Option ℕ → Type 0
IsLowIn e r = e ≡ true → is_low_register r ≡ true

field_low : (isa : Isa) (r : Option ℕ) → HasField isa r → IsLowIn isa.e r
field_low isa r h = grind arith

all_low : (e : Bool) (rd rs1 rs2 : Option ℕ) → IsLowIn e rd → IsLowIn e rs1 → IsLowIn e rs2
    → (not e || are_low rd rs1 rs2) ≡ true
all_low e rd rs1 rs2 d a b = grind arith

-- an instruction of a mnemonic that the core has
pub admitted_op : (isa : Isa) (i : Fields) → HasField isa i.rd → HasField isa i.rs1
    → HasField isa i.rs2 → is_admitted_op isa i.op ≡ true → is_admitted isa i ≡ true
admitted_op isa i d a b h = grind (arith, all_low, field_low)

-- each core has what is of no extension
pub admitted_low : (isa : Isa) (i : Fields) → HasField isa i.rd → HasField isa i.rs1
    → HasField isa i.rs2 → (not (is_m i.op) && not (is_a i.op)) ≡ true → is_admitted isa i ≡ true
admitted_low isa i d a b h = grind (arith, both, admitted_op)

pub has_lui : (isa : Isa) (r : ℕ) (z : ℤ) → Has isa r → is_admitted isa (lui r z) ≡ true
has_lui isa r z h = admitted_low isa (lui r z) h tt tt refl

pub has_addi : (isa : Isa) (d a : ℕ) (z : ℤ) → Has isa d → Has isa a
    → is_admitted isa (addi d a z) ≡ true
has_addi isa d a z hd ha = admitted_low isa (addi d a z) hd ha tt refl

pub has_sw : (isa : Isa) (b p : ℕ) (z : ℤ) → Has isa b → Has isa p
    → is_admitted isa (sw b p z) ≡ true
has_sw isa b p z hb hp = admitted_low isa (sw b p z) tt hp hb refl

pub has_lw : (isa : Isa) (d p : ℕ) (z : ℤ) → Has isa d → Has isa p
    → is_admitted isa (lw d p z) ≡ true
has_lw isa d p z hd hp = admitted_low isa (lw d p z) hd hp tt refl

pub has_jal : (isa : Isa) (d : ℕ) → Has isa d → is_admitted isa (jal d) ≡ true
has_jal isa d hd = admitted_low isa (jal d) hd tt tt refl

-- ---- the registers of an encodable instruction
pub record AreRegisters (i : Fields) : Type 0 where
  pub rd : IsRegister i.rd
  pub rs1 : IsRegister i.rs1
  pub rs2 : IsRegister i.rs2

by_format : (f : Format) (op : Op) (rd rs1 rs2 : Option ℕ) (imm : Option ℤ) → AreOf f rd rs1 rs2 imm
    → AreRegisters (record { op = op; rd = rd; rs1 = rs1; rs2 = rs2; imm = imm })
by_format f op rd rs1 rs2 imm h = grind arith

pub registers_of : (i : Fields) → IsEncodable i → AreRegisters i
registers_of i h = by_format (row i.op).form i.op i.rd i.rs1 i.rs2 i.imm h

-- ---- and those of one that a core admits
pub record HasAll (isa : Isa) (i : Fields) : Type 0 where
  pub rd : HasField isa i.rd
  pub rs1 : HasField isa i.rs1
  pub rs2 : HasField isa i.rs2

has_field : (isa : Isa) (r : Option ℕ) → IsRegister r → IsLowIn isa.e r → HasField isa r
has_field isa r h low = grind arith

are_low_in : (e : Bool) (rd rs1 rs2 : Option ℕ) → (not e || are_low rd rs1 rs2) ≡ true
    → IsLowIn e rd × IsLowIn e rs1 × IsLowIn e rs2
are_low_in e rd rs1 rs2 h = grind arith

pub has_all : (isa : Isa) (i : Fields) → IsEncodable i → is_admitted isa i ≡ true → HasAll isa i
has_all isa i encodable admitted = grind (arith, registers_of, both, are_low_in, has_field)

-- ---- the registers that are cleared at the start: those from x1 up to x31, or to x15
pub record AreCleared (isa : Isa) (n : ℕ) : Type 0 where
  pub low : n ≤ 31
  pub few : isa.e ≡ true → n ≤ 15
