-- How a number is written: decimal digits, or 0x and hexadecimal ones of either case, after an
-- optional minus sign. Zeros may lead.
use Rattle.std.specs.Prelude.{ℕ, zero, suc, ◌^◌, ◌==◌, Option, None, List, [], ◌∷◌, if◌then◌else◌}
use Rattle.std.specs.Prelude.{ℤ, pos, negsuc}
use Rattle.std.specs.Option.{option_map}
use Rattle.rvs_base.specs.Digits.{natural_below}

-- the largest absolute value is below this
abbrev pub number_limit : ℕ
number_limit = 2 ^ 63

abbrev pub magnitude_of : List ℕ → Option ℕ
magnitude_of text = natural_below number_limit text

abbrev pub negated : ℕ → ℤ
negated zero = pos 0
negated (suc n) = negsuc n

abbrev pub number_of : List ℕ → Option ℤ
number_of [] = None
number_of (c ∷ cs) = if c == 45 then option_map negated (magnitude_of cs)
    else option_map pos (magnitude_of (c ∷ cs))
