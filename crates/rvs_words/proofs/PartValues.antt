-- The value of an option that is a part.
use Rattle.std.proofs.Common.{◌≡◌, ℕ, List, Option, Some, None, arith}
use Rattle.std.specs.Prelude.{option_map, option_and_then}
use Rattle.rvs_parts.specs.Parts.{PartValue}
use Rattle.rvs_words.specs.Words.{at_most_one}
use Rattle.rvs_words.specs.PartWords.{part_of, parts_of}

-- a part, where one is given
abbrev pub part_given : Option (List ℕ) → Option (Option PartValue)
part_given None = Some None
part_given (Some text) = option_map Some (part_of text)

pub parts_are_at_most_one : (values : List (List ℕ))
    → parts_of values ≡ option_and_then part_given (at_most_one values)
parts_are_at_most_one values = grind arith
