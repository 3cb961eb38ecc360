-- What is drawn can be encoded, and computes.
use Rattle.std.proofs.Common.{◌≡◌, ℕ, ◌+◌, ◌*◌, ◌%◌, ◌/◌, pos, Bool, ◌==◌}
use Rattle.std.proofs.Common.{if◌then◌else◌}
use Rattle.std.proofs.Common.{arith}
use Rattle.rvs_insn.specs.declared.op.Format.TheVariants.{R}
use Rattle.rvs_insn.specs.declared.op.Op.TheVariants.{Add, Sub, Xor, Or, And, Slt, Sltu, Mul}
use Rattle.rvs_insn.specs.Table.{row}
use Rattle.rvs_insn.specs.Word.{word_of}
use Rattle.rvs_demo.specs.Program.{drawn, drawn_op}

form_by : (a b c d e f g : Bool)
    → (row (if a then Add else (if b then Sub else (if c then Xor else (if d then Or
    else (if e then And else (if f then Slt else (if g then Sltu else Mul)))))))).form ≡ R
form_by a b c d e f g = grind arith

pub drawn_form : (k : ℕ) → (row (drawn_op k)).form ≡ R
drawn_form k = form_by (k == 0) (k == 1) (k == 2) (k == 3) (k == 4) (k == 5) (k == 6)

-- the word of what is drawn, which has no immediate
pub drawn_word : (t : ℕ)
    → (row (drawn_op (t % 8))).bits + 0x80 * (8 + t / 8 % 8) + 0x8000 * (8 + t / 64 % 8)
    + 0x10_0000 * (8 + t / 512 % 8)
    ≡ word_of (drawn t)
drawn_word t = grind (arith, pos, drawn_form)
