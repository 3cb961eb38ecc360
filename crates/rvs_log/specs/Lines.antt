-- The lines of a log.
use Rattle.std.specs.Prelude.{ℕ, ◌^◌, ◌==◌, nat_le, true, false, if◌then◌else◌, List, [], ◌∷◌}
use Rattle.std.specs.Prelude.{◌++◌, length, Option, Some, None}
use Rattle.rvs_base.specs.Lines.{without_return}
use Rattle.rvs_log.specs.Grammar.{Reading, Nothing, reading_of}

-- the ended lines, of which the first has this front already
abbrev pub whole_from : List ℕ → List ℕ → List (List ℕ)
whole_from front [] = []
whole_from front (b ∷ bs) =
    elim (b == 10) [
      | true ↦ front ∷ whole_from [] bs
      | false ↦ whole_from (front ++ b ∷ []) bs
    ]

-- what comes after the last line feed
abbrev pub tail_from : List ℕ → List ℕ → List ℕ
tail_from front [] = front
tail_from front (b ∷ bs) =
    elim (b == 10) [
      | true ↦ tail_from [] bs
      | false ↦ tail_from (front ++ b ∷ []) bs
    ]

-- the whole lines of a log, and what follows them
abbrev pub whole_lines : List ℕ → List (List ℕ)
whole_lines bytes = whole_from [] bytes

abbrev pub tail_of : List ℕ → List ℕ
tail_of bytes = tail_from [] bytes

-- bytes after the last line feed are a line where there are any
abbrev pub last_line : List ℕ → List (List ℕ)
last_line [] = []
last_line (b ∷ bs) = (b ∷ bs) ∷ []

abbrev pub lines_of : List ℕ → List (List ℕ)
lines_of bytes = whole_lines bytes ++ last_line (tail_of bytes)

-- a log has at most this many bytes
abbrev pub log_limit : ℕ
log_limit = 2 ^ 40

-- the longest line that is read, with its carriage return
abbrev pub longest : ℕ
longest = 4096

-- what a line of a log says, which is nothing where it is longer
abbrev pub line_says : List ℕ → Reading
line_says line = if nat_le (length line) longest then reading_of (without_return line) else Nothing

-- the front of a line whose end hasn't come, or none where it is longer
abbrev pub held : List ℕ → Option (List ℕ)
held bytes = if nat_le (length bytes) longest then Some bytes else None

-- more bytes of a line
abbrev pub held_more : Option (List ℕ) → List ℕ → Option (List ℕ)
held_more waiting [] = waiting
held_more None (b ∷ bs) = None
held_more (Some bytes) (b ∷ bs) = held (bytes ++ b ∷ bs)

-- what a line says whose bytes waited
abbrev pub held_says : Option (List ℕ) → Reading
held_says None = Nothing
held_says (Some bytes) = reading_of (without_return bytes)
