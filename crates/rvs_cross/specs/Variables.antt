-- The variables of a cross point, in the order in which they appear first.
use Rattle.std.specs.Prelude.{ℕ, zero, suc, nat_lt, Bool, true, false, if◌then◌else◌}
use Rattle.std.specs.Prelude.{List, [], ◌∷◌, ◌++◌}
use Rattle.std.specs.Prelude.{◌&&◌, length, Option, Some, None, Ok, Err, option_map, bytes_eq}
use Rattle.std.specs.List.{list_any, position, filter_map}
use Rattle.rvs_cross.specs.declared.cross.Variable.{Variable}
use Rattle.rvs_cross.specs.declared.cross.Variable.TheVariants.{First, Second, Third}
use Rattle.rvs_cross.specs.declared.cross.Field.{Field}
use Rattle.rvs_cross.specs.declared.cross.Field.TheVariants.{Rd, Rs1, Rs2}
use Rattle.rvs_cross.specs.declared.cross.Assignment.{Assignment}
use Rattle.rvs_cross.specs.declared.refusal.CrossRefusal.TheVariants.{TooManyVariables}
use Rattle.rvs_cross.specs.Outcomes.{Outcome, for_each}
use Rattle.rvs_text.specs.Parts.{parts}
use Rattle.rvs_cross.specs.Entries.{assignment}
use Rattle.rvs_cross.specs.Once.{each_once}
use Rattle.rvs_cross.specs.Windows.{same_variable}

abbrev pub is_noted : List (List ℕ) → List ℕ → Bool
is_noted vars name = list_any (λ v. bytes_eq v name) vars

-- with one more, where it isn't there yet; at most three
abbrev pub note : List ℕ → List (List ℕ) → Outcome (List (List ℕ))
note name vars =
    if is_noted vars name then Ok vars
    else (if nat_lt (length vars) 3 then Ok (vars ++ name ∷ []) else Err TooManyVariables)

abbrev pub note_assigned : Option (List ℕ × Field) → List (List ℕ) → Outcome (List (List ℕ))
note_assigned None vars = Ok vars
note_assigned (Some set) vars = note set.0 vars

abbrev pub note_part : List ℕ → List (List ℕ) → Outcome (List (List ℕ))
note_part part vars = note_assigned (assignment part) vars

abbrev pub note_entry : List ℕ → List (List ℕ) → Outcome (List (List ℕ))
note_entry entry vars = for_each note_part (parts 59 entry) vars

-- the variables of these entries
abbrev pub variables : List (List ℕ) → Outcome (List (List ℕ))
variables entries = for_each note_entry entries []

-- ---- by number
abbrev pub variable_at : Option ℕ → Variable
variable_at (Some zero) = First
variable_at (Some (suc zero)) = Second
variable_at _ = Third

abbrev pub variable_named : List (List ℕ) → List ℕ → Variable
variable_named vars name = variable_at (position (λ v. bytes_eq v name) vars)

abbrev pub numbered : List (List ℕ) → (List ℕ × Field) → Assignment
numbered vars set = record { variable = variable_named vars set.0; field = set.1 }

abbrev pub set_of : List (List ℕ) → List ℕ → Option Assignment
set_of vars part = option_map (numbered vars) (assignment part)

-- one field
abbrev pub same_field : Field → Field → Bool
same_field Rd Rd = true
same_field Rs1 Rs1 = true
same_field Rs2 Rs2 = true
same_field _ _ = false

-- they say the same field of the same variable
abbrev pub same_set : Assignment → Assignment → Bool
same_set s t = same_variable s.variable t.variable && same_field s.field t.field

-- the assignments of an entry, each once
abbrev pub sets : List (List ℕ) → List ℕ → List Assignment
sets vars entry = each_once same_set (filter_map (set_of vars) (parts 59 entry))
