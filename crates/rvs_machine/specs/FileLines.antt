-- The lines of a file. A line feed ends each but perhaps the last, and takes a carriage return
-- before it along.
use Rattle.std.specs.Prelude.{ℕ, ◌+◌, Bool, if◌then◌else◌, Option, Some, None, is_some, unwrap_or}
use Rattle.std.specs.Prelude.{List, [], ◌∷◌}
use Rattle.rvs_base.specs.Lines.{before, after, without_return}

-- the bytes that are left, and the number of the line that begins there
pub record Rest : Type 0 where
  pub bytes : List ℕ
  pub line : ℕ

abbrev pub has_feed : List ℕ → Bool
has_feed bytes = is_some (after 10 bytes)

abbrev pub after_feed : List ℕ → List ℕ
after_feed bytes = unwrap_or (after 10 bytes) []

-- the first line
abbrev pub first_line : List ℕ → List ℕ
first_line bytes = if has_feed bytes then without_return (before 10 bytes) else bytes

-- the first line, where there are bytes, and what follows it
abbrev pub taken_from : List ℕ → ℕ → Option (List ℕ × Rest)
taken_from [] n = None
taken_from (c ∷ cs) n =
    Some (first_line (c ∷ cs), record { bytes = after_feed (c ∷ cs); line = n + 1 })

abbrev pub taken : Rest → Option (List ℕ × Rest)
taken r = taken_from r.bytes r.line
