-- Hexadecimal digits are ASCII.
use Rattle.std.proofs.Common.{◌≡◌, ℕ, ◌<◌, List, [], ◌∷◌, map, get_or, length, zero}
use Rattle.std.proofs.Common.{suc, refl, arith}
use Rattle.std.proofs.lemmas.Bool.Decides.{nat_tests}
use Rattle.rvs_base.specs.Number.{hex_digit_of, hex_digit_at, hex_word_of}

hex_digit_of-ascii : (d : ℕ) → d < 16 → hex_digit_of d < 128
hex_digit_of-ascii d h = grind (arith, nat_tests)

hex_digit_at-ascii : (word place : ℕ) → hex_digit_at word place < 128
hex_digit_at-ascii word place = grind (arith, hex_digit_of-ascii)

digits-ascii : (word : ℕ) (places : List ℕ) (i : ℕ)
    → get_or (map (hex_digit_at word) places) i 0 < 128
digits-ascii word [] i = omega arith
digits-ascii word (p ∷ ps) zero = hex_digit_at-ascii word p
digits-ascii word (p ∷ ps) (suc i) = digits-ascii word ps i

pub hex_word_of-ascii : (word i : ℕ) → get_or (hex_word_of word) i 0 < 128
unfolding hex_word_of
hex_word_of-ascii word i = digits-ascii word (7 ∷ 6 ∷ 5 ∷ 4 ∷ 3 ∷ 2 ∷ 1 ∷ 0 ∷ []) i

pub length-hex_word_of : (word : ℕ) → length (hex_word_of word) ≡ 8
unfolding hex_word_of
length-hex_word_of word = refl
