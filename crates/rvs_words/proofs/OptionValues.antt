-- The value of an option that stands once, and of one that needn't stand.
use Rattle.std.proofs.Common.{◌≡◌, ℕ, Bool, false, ◌<◌, List, length, Option, Some, None}
use Rattle.std.proofs.Common.{arith}
use Rattle.std.specs.Prelude.{option_map, option_and_then}
use Rattle.rvs_words.specs.Words.{only, at_most_one}
use Rattle.rvs_words.specs.Commands.{number_of, within_steps, steps_of, flag_with, flag_of}

abbrev pub itself : Option (List ℕ) → Option (List ℕ)
itself value = value

pub only_is_at_most_one : (values : List (List ℕ))
    → only values ≡ option_and_then itself (at_most_one values)
only_is_at_most_one values = grind arith

-- a number of steps, where one is given
abbrev pub steps_given : Option (List ℕ) → Option (Option ℕ)
steps_given None = Some None
steps_given (Some text) = option_map Some (within_steps (number_of text))

pub steps_are_at_most_one : (values : List (List ℕ))
    → steps_of values ≡ option_and_then steps_given (at_most_one values)
steps_are_at_most_one values = grind arith

-- whether a flag stands
abbrev pub flag_given : Option (List ℕ) → Option Bool
flag_given None = Some false
flag_given (Some value) = flag_with value

pub flags_are_at_most_one : (values : List (List ℕ))
    → flag_of values ≡ option_and_then flag_given (at_most_one values)
flags_are_at_most_one values = grind arith

pub more_than_one : (values : List (List ℕ)) → 1 < length values → at_most_one values ≡ None
more_than_one values h = grind arith
