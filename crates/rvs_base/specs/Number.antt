-- Numbers as text.
use Rattle.std.specs.Prelude.{ℕ, ◌+◌, ◌/◌, ◌%◌, ◌^◌, nat_lt, if◌then◌else◌, List, [], ◌∷◌, map}

-- the code of a hexadecimal digit, in lower case
abbrev pub hex_digit_of : ℕ → ℕ
hex_digit_of digit = if nat_lt digit 10 then 48 + digit else 87 + digit

-- the digit of a number that counts the powers of 16 with this exponent
abbrev pub hex_digit_at : ℕ → ℕ → ℕ
hex_digit_at word place = hex_digit_of (word / 16 ^ place % 16)

-- the eight digits of a 32-bit word, the highest place first
unfoldable pub hex_word_of : ℕ → List ℕ
hex_word_of word = map (hex_digit_at word) (7 ∷ 6 ∷ 5 ∷ 4 ∷ 3 ∷ 2 ∷ 1 ∷ 0 ∷ [])
