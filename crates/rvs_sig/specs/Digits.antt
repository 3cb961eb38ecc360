-- What bytes are worth as hexadecimal digits.
use Rattle.std.specs.Prelude.{◌≡◌, ◌<◌, ◌^◌, ℕ, List, slice_index, unwrap_or}
use Rattle.hex.specs.Hex.{hex_digit_value}

-- the value of a digit, or what no word reaches
abbrev pub worth_of : ℕ → ℕ
worth_of byte = unwrap_or (hex_digit_value byte) (2 ^ 32)

-- a table of what each byte is worth
abbrev pub AreWorths : List ℕ → Type 0
AreWorths worths = (byte : ℕ) → byte < 256 → slice_index worths byte ≡ worth_of byte
