-- The facts of an instruction: its fields, and what its operands hold.
use Rattle.std.specs.Prelude.{ℕ, ℤ, pos, ◌+ℤ◌, Bool, true, false, Option, Some, None}
use Rattle.std.specs.Int.{w32, cast_signed, int_rem_euclid}
use Rattle.rvs_insn.specs.declared.op.Format.{Format}
use Rattle.rvs_insn.specs.declared.op.Format.TheVariants.{Load, Store}
use Rattle.rvs_insn.specs.Table.{row}
use Rattle.rvs_insn.specs.Fields.{Fields}
use Rattle.rvs_expr_text.specs.declared.lexeme.NumName.{NumName}
use Rattle.rvs_expr_text.specs.declared.lexeme.NumName.TheVariants.{Rs1Val, Rs2Val, ImmVal, EaAlign}
use Rattle.rvs_expr_text.specs.declared.lexeme.RegName.{RegName}
use Rattle.rvs_expr_text.specs.declared.lexeme.RegName.TheVariants.{Rd, Rs1, Rs2}
use Rattle.rvs_expr.specs.Meaning.{Table, both}

-- a word as a number, read without a sign or with one
abbrev pub number_of : Bool → ℕ → ℤ
number_of true word = pos word
number_of false word = cast_signed w32 word

-- what a source register holds is there exactly where the instruction has that register
abbrev pub value_of : Bool → Option ℕ → ℕ → Option ℤ
value_of unsigned None word = None
value_of unsigned (Some register) word = Some (number_of unsigned word)

abbrev pub first_value : Fields → ℕ → Option ℤ
first_value i word = value_of (row i.op).unsigned1 i.rs1 word

abbrev pub second_value : Fields → ℕ → Option ℤ
second_value i word = value_of (row i.op).unsigned2 i.rs2 word

-- the place of an address within its word
abbrev pub place_in_word : Option ℤ → Option ℤ → Option ℤ
place_in_word base offset = both (λ b o. int_rem_euclid (b +ℤ o) (pos 4)) base offset

-- only loads and stores have one
abbrev pub alignment : Format → Option ℤ → Option ℤ → Option ℤ
alignment Load base offset = place_in_word base offset
alignment Store base offset = place_in_word base offset
alignment _ base offset = None

abbrev pub register_of : Fields → RegName → Option ℕ
register_of i Rd = i.rd
register_of i Rs1 = i.rs1
register_of i Rs2 = i.rs2
register_of i _ = None

abbrev pub num_of : Fields → ℕ → ℕ → NumName → Option ℤ
num_of i first second Rs1Val = first_value i first
num_of i first second Rs2Val = second_value i second
num_of i first second ImmVal = i.imm
num_of i first second EaAlign = alignment (row i.op).form (first_value i first) i.imm

-- the facts of an instruction whose source registers hold these words before it
abbrev pub facts_of : Fields → ℕ → ℕ → Table
facts_of i first second = record { reg = register_of i; num = num_of i first second }
