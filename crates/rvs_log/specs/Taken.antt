-- What something that takes lines has after some bytes of a log.
use Rattle.std.specs.Prelude.{◌≡◌, ℕ, List, [], ◌∷◌, ◌++◌, length, map, Option, Some, None}
use Rattle.rvs_log.specs.Grammar.{Reading}
use Rattle.rvs_log.specs.Lines.{whole_lines, tail_of, line_says, held, held_says}

-- how many bytes wait, or fewer
abbrev pub waiting_len : Option (List ℕ) → ℕ
waiting_len None = 1
waiting_len (Some bytes) = length bytes

pub record Taken (T : Type 0) : Type 0 where
  -- what the lines led to
  pub told : T
  -- what has come of the line that is still open, or none where that is over 4,096 bytes
  pub waiting : Option (List ℕ)
  -- how many bytes were fed
  pub fed : ℕ

abbrev pub taken : {T : Type 0} → T → Option (List ℕ) → ℕ → Taken T
taken told waiting fed = record { told = told; waiting = waiting; fed = fed }

-- what lists of lines lead to, where each line takes a step
abbrev pub IsTold : {T : Type 0} → (T → Reading → T) → (List Reading → T) → Type 0
IsTold step told = (rs : List Reading) (r : Reading) → step (told rs) r ≡ told (rs ++ r ∷ [])

-- the state of some bytes, after n were fed
unfoldable pub state_for : {T : Type 0} → (List Reading → T) → List ℕ → ℕ → Taken T
state_for told bytes n =
    taken (told (map line_says (whole_lines bytes))) (held (tail_of bytes)) n

-- after the end of the bytes
abbrev pub with_end : {T : Type 0} → (T → Reading → T) → Taken T → Taken T
with_end step s = taken (step s.told (held_says s.waiting)) (Some []) s.fed

-- bytes ended by a line feed, where the last line lacks one
abbrev pub ended_by : List ℕ → List ℕ → List ℕ
ended_by [] bytes = bytes
ended_by (b ∷ bs) bytes = bytes ++ 10 ∷ []

abbrev pub ended : List ℕ → List ℕ
ended bytes = ended_by (tail_of bytes) bytes
