-- How large a demonstration may be.
use Rattle.std.specs.Prelude.{ℕ, ◌&&◌, nat_le, if◌then◌else◌, Option, Some, None}

-- so many generated instructions, from 1 to 1,000,000
abbrev pub size_of : ℕ → Option ℕ
size_of n = if nat_le 1 n && nat_le n 1_000_000 then Some n else None
