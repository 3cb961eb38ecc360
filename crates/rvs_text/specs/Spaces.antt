-- Texts without the spaces at their ends.
use Rattle.std.specs.Prelude.{ℕ, ◌==◌, if◌then◌else◌, List, [], ◌∷◌}

-- without the spaces at the front
abbrev pub without_spaces : List ℕ → List ℕ
without_spaces [] = []
without_spaces (c ∷ cs) = if c == 32 then without_spaces cs else (c ∷ cs)

-- a byte goes before a text without spaces at its end
abbrev pub keep_end : ℕ → List ℕ → List ℕ
keep_end c [] = if c == 32 then [] else (c ∷ [])
keep_end c (d ∷ ds) = c ∷ d ∷ ds

-- without the spaces at the end
abbrev pub without_end : List ℕ → List ℕ
without_end [] = []
without_end (c ∷ cs) = keep_end c (without_end cs)

-- without the spaces at both ends
abbrev pub trimmed : List ℕ → List ℕ
trimmed cs = without_end (without_spaces cs)
