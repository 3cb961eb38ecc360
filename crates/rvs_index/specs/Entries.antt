-- The points that say registers, by their places among the counts alone.
use Rattle.std.specs.Prelude.{◌≡◌, ℕ, zero, suc, ℤ, pos, ◌+◌, ◌*◌, ◌/◌, ◌%◌, ◌<◌, ◌≤◌, ◌==◌}
use Rattle.std.specs.Prelude.{Bool, true, false, List, length, slice_index_or}
use Rattle.rvs_index.specs.Buckets.{bucket_count}
use Rattle.rvs_index.specs.Cells.{raised_cell}
use Rattle.rvs_index.specs.Index.{raised}
use Rattle.rvs_index.specs.declared.asked.Asked.{Asked}
use Rattle.rvs_index.specs.declared.asked.Asked.TheVariants.{Rd, Rs1, Rs2}
use Rattle.rvs_index.specs.declared.cell.Cell.{Cell}

-- 32 registers in each of three fields
abbrev pub register_count : ℕ
register_count = 96

-- the facts that are registers in fields
abbrev pub is_field : Asked → Bool
is_field Rd = true
is_field Rs1 = true
is_field Rs2 = true
is_field _ = false

-- the entry that says to look at the cell
abbrev pub look : ℕ
look = 4294967295

abbrev pub is_look : ℕ → Bool
is_look e = e == look

-- the counts after an entry: 0 names no point
abbrev pub raised_entry : ℕ → List ℕ → List ℕ
raised_entry zero counts = counts
raised_entry (suc at) counts = raised true at counts

-- an entry adds what a cell adds for a register, and names no other place, where it doesn't say to
-- look at the cell
pub record IsEntry (c : Cell) (z : ℤ) (e : ℕ) : Type 0 where
  pub few : is_look e ≡ false → c.more ≡ false
  pub adds : is_look e ≡ false → (counts : List ℕ)
      → raised_cell c z counts ≡ raised_entry e counts
  pub low : is_look e ≡ false → e ≤ c.first_at + 1

-- the entry of a number is for a register's cell of a mnemonic
abbrev pub IsEntryAt : List Cell → ℕ → ℕ → Type 0
IsEntryAt cells n e = (d : Cell)
    → IsEntry (slice_index_or cells
    (n / register_count * bucket_count + (1 + n % register_count)) d) (pos (n % 32)) e

-- entries for the first numbers
pub record HasEntries (cells : List Cell) (entries : List ℕ) : Type 0 where
  pub each : (n : ℕ) → n < length entries → IsEntryAt cells n (slice_index_or entries n 0)
