-- The number of steps that a text's header allows.
use Rattle.std.specs.Prelude.{ℕ, ◌==◌, ◌&&◌, nat_le, Option, Some, None, List, [], ◌∷◌}
use Rattle.std.specs.Prelude.{if◌then◌else◌, option_and_then, codes}
use Rattle.std.specs.Option.{option_or}
use Rattle.rvs_asm_text.specs.Text.{lines_of}
use Rattle.rvs_base.specs.Digits.{short_number}

-- what follows a front, where the text has it
abbrev pub after_front : List ℕ → List ℕ → Option (List ℕ)
after_front [] text = Some text
after_front (p ∷ ps) [] = None
after_front (p ∷ ps) (c ∷ cs) = if c == p then after_front ps cs else None

-- the most steps that a test may take
abbrev pub most_steps : ℕ
most_steps = 2_000_000

-- from 1 to as many
abbrev pub allowed : ℕ → Option ℕ
allowed n = if nat_le 1 n && nat_le n most_steps then Some n else None

-- one to seven digits
abbrev pub steps_number : List ℕ → Option ℕ
steps_number text = option_and_then allowed (short_number 7 10 text)

abbrev pub steps_line : List ℕ → Option ℕ
steps_line line = option_and_then steps_number (after_front (codes "#! steps ") line)

abbrev pub first_steps : List (List ℕ) → Option ℕ
first_steps [] = None
first_steps (l ∷ ls) = option_or (steps_line l) (first_steps ls)

-- the n of the first line `#! steps n`
unfoldable pub header_steps : List ℕ → Option ℕ
header_steps text = first_steps (lines_of text)
