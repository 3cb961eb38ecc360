-- Numbers, as an ISA specification writes them.
use Rattle.std.specs.Prelude.{ℕ, ◌^◌, List, Option}
use Rattle.rvs_base.specs.Digits.{natural_below}

-- decimal digits, or `0x` and hexadecimal digits, of a number below 2^32
abbrev pub number : List ℕ → Option ℕ
number text = natural_below (2 ^ 32) text
