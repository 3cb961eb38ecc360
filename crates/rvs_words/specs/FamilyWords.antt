-- The families of abstract points on the command line.
use Rattle.std.specs.Prelude.{ℕ, if◌then◌else◌, List, [], ◌∷◌, Option, Some, None, codes, bytes_eq}
use Rattle.rvs_abstract.specs.declared.families.Families.{Families}
use Rattle.rvs_abstract.specs.declared.families.Families.TheVariants.{Stated, All}

abbrev pub families_named : List ℕ → Option Families
families_named text = if bytes_eq text (codes "all") then Some All else None

-- which families are read, which needn't stand, and stands once at most
abbrev pub families_of : List (List ℕ) → Option Families
families_of [] = Some Stated
families_of (text ∷ []) = families_named text
families_of texts = None
