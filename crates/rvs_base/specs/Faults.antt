-- Counts, kept in 64 bits.
use Rattle.std.specs.Prelude.{ℕ, ◌+◌, ◌-◌, ◌^◌, ◌≤◌, min}

-- a count with one more, as far as 64 bits hold it
abbrev pub raised : ℕ → ℕ
raised count = min (count + 1) (2 ^ 64 - 1)

-- the same with so many more
abbrev pub grown : ℕ → ℕ → ℕ
grown count more = min (count + more) (2 ^ 64 - 1)

-- a count went up, once or more often, or stands at the greatest number that it can have
abbrev pub Rose : ℕ → ℕ → Type 0
Rose before now = raised before ≤ now
