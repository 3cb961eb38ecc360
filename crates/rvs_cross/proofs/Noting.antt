-- The variables are at most three.
use Rattle.std.proofs.Common.{◌≡◌, ℕ, ◌≤◌, Bool, List, [], ◌∷◌, ◌++◌, length}
use Rattle.std.proofs.Common.{length-append, Some, None, Ok, Err, refl, arith, rules}
use Rattle.std.specs.Prelude.{nat_lt, if◌then◌else◌}
use Rattle.rvs_cross.specs.declared.refusal.CrossRefusal.TheVariants.{TooManyVariables}
use Rattle.rvs_text.specs.Outcomes.{◌>>=◌}
use Rattle.rvs_cross.specs.Outcomes.{Outcome, for_each}
use Rattle.rvs_text.specs.Parts.{parts}
use Rattle.rvs_cross.specs.Entries.{assignment}
use Rattle.rvs_cross.specs.Variables.{is_noted, note, note_assigned, note_part, note_entry}
use Rattle.rvs_cross.specs.Variables.{variables}

abbrev pub Names : Type 0
Names = List (List ℕ)

-- at most three, where there are any
abbrev pub AreFew : Outcome Names → Type 0
AreFew (Ok names) = length names ≤ 3
AreFew (Err e) = Unit {0}

noted-few : (b c : Bool) (name : List ℕ) (names : Names) → nat_lt (length names) 3 ≡ c
    → length names ≤ 3
    → AreFew (if b then Ok names else (if c then Ok (names ++ name ∷ []) else Err TooManyVariables))
noted-few b c name names e h = search (rules, length-append)

note-few : (name : List ℕ) (names : Names) → length names ≤ 3 → AreFew (note name names)
note-few name names h = noted-few (is_noted names name) (nat_lt (length names) 3) name names refl h

part-few : (part : List ℕ) (names : Names) → length names ≤ 3 → AreFew (note_part part names)
part-few part names h =
    elim (assignment part) as (λ o. AreFew (note_assigned o names)) [
      | Some s ↦ note-few s.0 names h
      | None ↦ h
    ]

then-few : (f : Names → Outcome Names) (o : Outcome Names)
    → ((names : Names) → length names ≤ 3 → AreFew (f names)) → AreFew o → AreFew (o >>= f)
then-few f o each h = grind arith

each-few : (f : List ℕ → Names → Outcome Names)
    → ((x : List ℕ) (names : Names) → length names ≤ 3 → AreFew (f x names))
    → (xs : List (List ℕ)) (names : Names) → length names ≤ 3 → AreFew (for_each f xs names)
each-few f each [] names h = h
each-few f each (x ∷ xs) names h = grind (arith, then-few, (each-few f each xs))

entry-few : (entry : List ℕ) (names : Names) → length names ≤ 3 → AreFew (note_entry entry names)
entry-few entry names h = each-few note_part part-few (parts 59 entry) names h

pub at_most_three : (entries : List (List ℕ)) (names : Names) → variables entries ≡ Ok names
    → length names ≤ 3
at_most_three entries names e = grind (arith, each-few, entry-few)
