-- A choice of operands, and its facts.
use Rattle.std.specs.Prelude.{◌≤◌, ◌^◌, ℕ, ℤ, unsigned_abs, Option, None}
use Rattle.rvs_insn.specs.declared.op.Format.{Format}
use Rattle.rvs_insn.specs.declared.op.Format.TheVariants.{JumpReg}
use Rattle.rvs_insn.specs.declared.op.Op.{Op}
use Rattle.rvs_insn.specs.Table.{row}
use Rattle.rvs_insn.specs.Fields.{Fields}
use Rattle.rvs_expr_text.specs.declared.lexeme.NumName.{NumName}
use Rattle.rvs_expr_text.specs.declared.lexeme.NumName.TheVariants.{Rs1Val}
use Rattle.rvs_expr.specs.Meaning.{Table}
use Rattle.rvs_facts.specs.Facts.{facts_of}

-- a choice
pub record ChoiceValue : Type 0 where
  pub op : Op
  pub rd : Option ℕ
  pub rs1 : Option ℕ
  pub rs2 : Option ℕ
  pub imm : Option ℤ
  pub align : ℕ
  pub w1 : ℕ
  pub w2 : ℕ

-- what the words of registers and immediates keep to
abbrev pub IsNarrow : ℤ → Type 0
IsNarrow z = unsigned_abs z ≤ 2 ^ 32

-- ---- its facts

abbrev pub fields_of : ChoiceValue → Fields
fields_of c = record { op = c.op; rd = c.rd; rs1 = c.rs1; rs2 = c.rs2; imm = c.imm }

-- the base of jalr is an address of the test's own, so that no choice gives rs1_val
abbrev pub base_value : Format → Option ℤ → Option ℤ
base_value JumpReg value = None
base_value _ value = value

abbrev pub fact_at : Format → NumName → Option ℤ → Option ℤ
fact_at form Rs1Val value = base_value form value
fact_at form _ value = value

abbrev pub without_base : Format → Table → Table
without_base form facts =
    record { reg = facts.reg; num = λ name. fact_at form name (facts.num name) }

-- those of its fields where its registers read its words
abbrev pub table_of : ChoiceValue → Table
table_of c = without_base (row c.op).form (facts_of (fields_of c) c.w1 c.w2)
