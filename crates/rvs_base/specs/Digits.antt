-- Numbers, as digits spell them. Letters are digits in either case, and zeros may lead; each format
-- says its radix, and how many digits or how large a number it takes.
use Rattle.std.specs.Prelude.{ℕ, ◌&&◌, nat_le, nat_lt, if◌then◌else◌, List, length, take, drop}
use Rattle.std.specs.Prelude.{codes, bytes_eq, Option, Some, None, option_and_then}
use Rattle.std.specs.Char.{is_digit}
use Rattle.std.specs.List.{list_all}
use Rattle.std.specs.Str.Parse.{digits_value}

-- the number that one or more digits of a radix spell
unfoldable pub digits_of : ℕ → List ℕ → Option ℕ
digits_of radix text =
    if nat_lt 0 (length text) && list_all (λ c. is_digit c radix) text
    then Some (digits_value radix text) else None

abbrev pub below : ℕ → ℕ → Option ℕ
below limit n = if nat_lt n limit then Some n else None

-- the same where it is below a limit, however many digits there are
abbrev pub number_below : ℕ → ℕ → List ℕ → Option ℕ
number_below limit radix text = option_and_then (below limit) (digits_of radix text)

-- the same of so many digits at most
abbrev pub short_number : ℕ → ℕ → List ℕ → Option ℕ
short_number most radix text = if nat_le (length text) most then digits_of radix text else None

-- decimal digits, or `0x` and hexadecimal ones
abbrev pub natural_of : List ℕ → Option ℕ
natural_of text = if bytes_eq (take 2 text) (codes "0x") then digits_of 16 (drop 2 text)
    else digits_of 10 text

abbrev pub natural_below : ℕ → List ℕ → Option ℕ
natural_below limit text = option_and_then (below limit) (natural_of text)
