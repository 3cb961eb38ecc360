-- The lines that end in a piece.
use Rattle.std.specs.Prelude.{◌≡◌, ℕ, ◌+◌, ◌-◌, ◌<◌, ◌≤◌, ◌==◌, Bool, true, false, List, [], ◌∷◌}
use Rattle.std.specs.Prelude.{◌++◌, length, take, drop, Option, Some, None}
use Rattle.rvs_base.specs.Lines.{without_return}
use Rattle.rvs_log.specs.Lines.{held_more}
use Rattle.rvs_log.specs.declared.follow.NextLine.{NextLine}
use Rattle.rvs_log.specs.declared.follow.NextLine.TheVariants.{Here, Held, Nowhere}
use Rattle.rvs_log.specs.declared.follow.Ending.{Ending}
use Rattle.rvs_log.specs.declared.follow.Ending.TheVariants as ending

-- what waits after a piece
abbrev pub held_after : Option (List ℕ) → List ℕ → Option (List ℕ)
held_after w [] = w
held_after w (b ∷ bs) =
    elim (b == 10) [
      | true ↦ held_after (Some []) bs
      | false ↦ held_after (held_more w (b ∷ [])) bs
    ]

-- the line whose bytes waited, unless it is too long
abbrev pub lines_held : Option (List ℕ) → List (List ℕ)
lines_held None = []
lines_held (Some bytes) = without_return bytes ∷ []

-- the lines of at most 4,096 bytes that end in a piece
abbrev pub lines_after : Option (List ℕ) → List ℕ → List (List ℕ)
lines_after w [] = []
lines_after w (b ∷ bs) =
    elim (b == 10) [
      | true ↦ lines_held w ++ lines_after (Some []) bs
      | false ↦ lines_after (held_more w (b ∷ [])) bs
    ]

-- what waits, by its fields
abbrev pub waiting : Bool → List ℕ → Option (List ℕ)
waiting true bytes = None
waiting false bytes = Some bytes

abbrev pub unless_given : Bool → Option (List ℕ) → Option (List ℕ)
unless_given true w = Some []
unless_given false w = w

-- how a line ended
abbrev pub HasEnded : Option (List ℕ) → List ℕ → Bool → List ℕ → Ending → Type 0
HasEnded w line too_long bytes ending.Here =
    (lines_held (held_more w line) ≡ without_return line ∷ [])
    × (waiting too_long bytes ≡ Some [])
HasEnded w line too_long bytes ending.Waited =
    (lines_held (held_more w line) ≡ without_return bytes ∷ [])
    × (too_long ≡ false)
HasEnded w line too_long bytes ending.Over = (lines_held (held_more w line) ≡ [])
    × (waiting too_long bytes ≡ Some [])

-- where the next line of a piece is
abbrev pub IsNextLine : Option (List ℕ) → List ℕ → Bool → List ℕ → NextLine → Type 0
IsNextLine w piece too_long bytes (Here start end) =
    (start ≤ end) × (end < length piece)
    × (lines_after w (take (end + 1) piece) ≡ without_return (take (end - start) (drop start piece))
    ∷ [])
    × (held_after w (take (end + 1) piece) ≡ Some []) × (waiting too_long bytes ≡ Some [])
    × (lines_after w (take (end + 1 - 1) piece) ≡ [])
IsNextLine w piece too_long bytes (Held used) =
    (used ≤ length piece) × (lines_after w (take used piece) ≡ without_return bytes ∷ [])
    × (held_after w (take used piece) ≡ Some []) × (too_long ≡ false)
    × (lines_after w (take (used - 1) piece) ≡ [])
IsNextLine w piece too_long bytes Nowhere = (lines_after w piece ≡ [])
    × (held_after w piece ≡ waiting too_long bytes)

abbrev pub one_or_none : Option (List ℕ) → List (List ℕ)
one_or_none None = []
one_or_none (Some line) = line ∷ []

-- the last line, where there is one
abbrev pub last_of : Option (List ℕ) → Option (List ℕ)
last_of None = None
last_of (Some []) = None
last_of (Some (b ∷ bs)) = Some (without_return (b ∷ bs))
