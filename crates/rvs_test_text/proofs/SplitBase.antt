-- The base of jalr in two parts.
use Rattle.std.proofs.Common.{◌≡◌, ℕ, ◌^◌, ◌<◌}
use Rattle.std.proofs.Common.{arith}
use Rattle.std.specs.Prelude.{ℤ}
use Rattle.std.specs.Int.{w32, cast_unsigned}
use Rattle.rvs_insn.specs.Word.{FitsBits}
use Rattle.rvs_machine.specs.Effects.{add32}
use Rattle.rvs_test_text.specs.TestText.{first_part, second_part}

-- the base that is set by both is the target less the immediate
pub split_base : (t : ℕ) (z : ℤ) → t < 2 ^ 32 → FitsBits 12 z
    → add32 (add32 (add32 t (cast_unsigned w32 (first_part z))) (cast_unsigned w32 (second_part z)))
    (cast_unsigned w32 z) ≡ t
split_base t z s f = grind arith

pub parts_fit : (z : ℤ) → FitsBits 12 z → FitsBits 12 (first_part z) × FitsBits 12 (second_part z)
parts_fit z f = grind arith
