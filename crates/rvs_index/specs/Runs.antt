-- Instructions one after the other.
use Rattle.std.specs.Prelude.{ℕ, ◌-◌, List, [], ◌∷◌, ◌++◌, length, drop, fold, Option, Some, None}

-- the suffixes of a list that have an element, from the whole list on
abbrev pub suffixes : {X : Type 0} → List X → List (List X)
suffixes [] = []
suffixes (x ∷ xs) = (x ∷ xs) ∷ suffixes xs

-- the last n of a list, or all of it
abbrev pub last : {X : Type 0} → ℕ → List X → List X
last n xs = drop (length xs - n) xs

-- the decoded instructions since the last that doesn't decode, at most six
abbrev pub run_with : {X : Type 0} → List X → Option X → List X
run_with run None = []
run_with run (Some x) = last 6 (run ++ x ∷ [])

abbrev pub run_of : {X : Type 0} → List (Option X) → List X
run_of xs = fold run_with [] xs
