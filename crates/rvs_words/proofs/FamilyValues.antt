-- The value of an option that says which families are read.
use Rattle.std.proofs.Common.{◌≡◌, ℕ, List, Option, Some, None, arith}
use Rattle.std.specs.Prelude.{option_and_then}
use Rattle.rvs_abstract.specs.declared.families.Families.{Families}
use Rattle.rvs_abstract.specs.declared.families.Families.TheVariants.{Stated}
use Rattle.rvs_words.specs.Words.{at_most_one}
use Rattle.rvs_words.specs.FamilyWords.{families_named, families_of}

-- what a value names, where one is given
abbrev pub families_given : Option (List ℕ) → Option Families
families_given None = Some Stated
families_given (Some text) = families_named text

pub families_are_at_most_one : (values : List (List ℕ))
    → families_of values ≡ option_and_then families_given (at_most_one values)
families_are_at_most_one values = grind arith
