-- How a text is cut at a byte, and into lines. A line is told without its line feed and with its
-- carriage return: which of those are dropped, each format says at its own place.
use Rattle.std.specs.Prelude.{ℕ, ◌==◌, Option, Some, None, List, [], ◌∷◌, if◌then◌else◌}

-- the text before the first such byte; all of it where there is none
abbrev pub before : ℕ → List ℕ → List ℕ
before b [] = []
before b (c ∷ cs) = if c == b then [] else (c ∷ before b cs)

-- the text after the first such byte, where there is one
abbrev pub after : ℕ → List ℕ → Option (List ℕ)
after b [] = None
after b (c ∷ cs) = if c == b then Some cs else after b cs

-- a byte goes to the front of the first line
abbrev pub onto_first : ℕ → List (List ℕ) → List (List ℕ)
onto_first c [] = (c ∷ []) ∷ []
onto_first c (t ∷ ts) = (c ∷ t) ∷ ts

-- a text cut at its line feeds; what follows the last is a line where it isn't empty
abbrev pub cut_lines : List ℕ → List (List ℕ)
cut_lines [] = []
cut_lines (c ∷ cs) = if c == 10 then ([] ∷ cut_lines cs) else onto_first c (cut_lines cs)

-- a line without one carriage return at its end
abbrev pub without_return : List ℕ → List ℕ
without_return [] = []
without_return (c ∷ []) = if c == 13 then [] else (c ∷ [])
without_return (c ∷ d ∷ ds) = c ∷ without_return (d ∷ ds)
