-- The lines of a report that say how many instructions each of its logs has.
use Rattle.std.specs.Prelude.{ℕ, nat_le, if◌then◌else◌, List, [], ◌∷◌, ◌++◌, length, codes}
use Rattle.std.specs.Fmt.{decimal}

abbrev pub log_line : List ℕ → ℕ → List ℕ
log_line name ran = codes "log " ++ (decimal ran ++ (codes " " ++ (name ++ codes "\n")))

-- a line for each log, in their order
abbrev pub log_lines : List (List ℕ) → List ℕ → List ℕ
log_lines [] ran = []
log_lines (name ∷ names) [] = []
log_lines (name ∷ names) (n ∷ ran) = log_line name n ++ log_lines names ran

-- one log has no line of its own
abbrev pub lines_of_many : List (List ℕ) → List ℕ → List ℕ
lines_of_many names ran = if nat_le 2 (length names) then log_lines names ran else []
