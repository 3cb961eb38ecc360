-- What a word spells is an instruction with fields in range.
use Rattle.std.proofs.Common.{◌≡◌, ℕ, ◌^◌, ◌-◌, ◌<◌}
use Rattle.std.proofs.Common.{Option, Some, arith}
use Rattle.std.specs.Prelude.{pos, negsuc, ◌-ℤ◌}
use Rattle.std.proofs.lemmas.Int.{ints}
use Rattle.std.specs.Option.{option_map}
use Rattle.rvs_insn.specs.declared.op.Op.{Op}
use Rattle.rvs_insn.specs.Table.{op_of_word}
use Rattle.rvs_insn.specs.Fields.{Fields, IsRegister, signed}
use Rattle.rvs_insn.specs.Fields.{fields_at, insn_of_word}
use Rattle.rvs_insn.specs.Word.{FitsBits, IsEncodable}

-- ---- what a word spells is an instruction with fields in range
pub below_zero : (n m : ℕ) → n < m → pos n -ℤ pos m ≡ negsuc (m - n - 1)
below_zero n m h = grind (arith, ints)

pub bits_fit : (n : ℕ) → n < 2 ^ 12 → FitsBits 12 (signed 12 n)
bits_fit n h = grind (arith, below_zero)

-- what is needed of an instruction
pub record InRange (i : Fields) : Type 0 where
  pub encodable : IsEncodable i
  pub rd : IsRegister i.rd

pub op_fits : (word : ℕ) (o : Option Op) (i : Fields) → word < 2 ^ 32
    → option_map (fields_at word) o ≡ Some i → InRange i
op_fits word o i h e = grind arith

pub insn_fits : (word : ℕ) (i : Fields) → word < 2 ^ 32 → insn_of_word word ≡ Some i → InRange i
unfolding insn_of_word
insn_fits word i h e = op_fits word (op_of_word word) i h e
