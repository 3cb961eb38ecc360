-- Parts on the command line.
use Rattle.std.specs.Prelude.{ℕ, List, [], ◌∷◌, Option, Some, None, option_map, option_and_then}
use Rattle.rvs_base.specs.Digits.{short_number}
use Rattle.rvs_base.specs.Lines.{before, after}
use Rattle.rvs_parts.specs.Parts.{PartValue, part_between}

-- a number of one to four decimal digits
abbrev pub part_number : List ℕ → Option ℕ
part_number text = short_number 4 10 text

-- a part: its number and that of all parts, with a slash between
abbrev pub part_of : List ℕ → Option PartValue
part_of text = option_and_then
    (λ at. option_and_then (λ of. part_between at of) (option_and_then part_number (after 47 text)))
    (part_number (before 47 text))

-- a part, which needn't stand, and stands once at most
abbrev pub parts_of : List (List ℕ) → Option (Option PartValue)
parts_of [] = Some None
parts_of (text ∷ []) = option_map Some (part_of text)
parts_of texts = None
