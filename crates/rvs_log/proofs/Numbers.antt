-- The number of a register reads back.
use Rattle.std.proofs.Common.{◌≡◌, ℕ, ◌+◌, ◌*◌, ◌%◌, ◌<◌, ◌≤◌, true, false}
use Rattle.std.proofs.Common.{List, [], ◌∷◌, Some, arith}
use Rattle.std.proofs.lemmas.Bool.Decides.{nat_tests}
use Rattle.std.specs.Prelude.{◌==◌}
use Rattle.rvs_text.specs.Bytes.{is_digit}
use Rattle.rvs_log.specs.Grammar.{after_spaces, register_at}
use Rattle.rvs_log.specs.Written.{padded}
use Rattle.rvs_log.proofs.Ascii.{padded_one, padded_two}

one_digit : (r : ℕ) → r < 10 → is_digit (48 + r) ≡ true
one_digit r h = grind (arith, nat_tests)

not_space : (r : ℕ) → (48 + r == 32) ≡ false
not_space r = grind (arith, nat_tests)

pub register_one : (r : ℕ) (bs : List ℕ) → r < 10
    → register_at (after_spaces ((48 + r) ∷ 32 ∷ bs)) ≡ Some (r, 32 ∷ bs)
register_one r bs h = grind (arith, not_space, one_digit)

pub register_two : (a b : ℕ) (bs : List ℕ) → a < 10 → b < 10 → 10 ≤ 10 * a + b → 10 * a + b < 32
    → register_at (after_spaces ((48 + a) ∷ (48 + b) ∷ bs)) ≡ Some (10 * a + b, bs)
register_two a b bs ha hb l u = grind (arith, not_space, one_digit)

-- one digit and a space
pub one_named : (tens ones : ℕ) → tens < 256 → ones ≡ 32 → (tens + 208) % 256 < 10
    → tens ∷ ones ∷ [] ≡ padded ((tens + 208) % 256)
one_named tens ones t e l = grind (arith, padded_one)

-- two digits
pub two_named : (tens ones high low : ℕ) → tens ≡ 48 + high → ones ≡ 48 + low → 0 < high → low < 10
    → 10 * high + low < 32 → tens ∷ ones ∷ [] ≡ padded (10 * high + low)
two_named tens ones high low t o least l h = grind (arith, padded_two)
