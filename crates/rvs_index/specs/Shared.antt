-- Mnemonics whose cells are alike.
use Rattle.std.specs.Prelude.{◌≡◌, ℕ, ◌+◌, ◌*◌, ◌<◌, ◌==◌, ◌&&◌, not, Bool, if◌then◌else◌}
use Rattle.std.specs.Prelude.{List, length, slice_index_or}
use Rattle.std.specs.Ordering.{int_eq}
use Rattle.rvs_insn.specs.Table.{op_count}
use Rattle.rvs_index.specs.Buckets.{bucket_count}
use Rattle.rvs_index.specs.declared.cell.Cell.{Cell}

-- both are so, or neither is
abbrev pub agree : Bool → Bool → Bool
agree a b = if a then b else not b

-- two cells say the same
abbrev pub is_same : Cell → Cell → Bool
is_same a b =
    (((int_eq a.first b.first && a.first_at == b.first_at) && int_eq a.second b.second)
    && a.second_at == b.second_at) && agree a.more b.more

-- the first n cells of two mnemonics are alike
pub record AreAlike (n : ℕ) (cells : List Cell) (left right : ℕ) : Type 0 where
  pub each : (b : ℕ) (e : Cell) → b < n
      → slice_index_or cells (left * bucket_count + b) e
      ≡ slice_index_or cells (right * bucket_count + b) e

-- for the first mnemonics, one whose cells are theirs
pub record HasBlocks (cells : List Cell) (blocks : List ℕ) : Type 0 where
  pub each : (m : ℕ) → m < length blocks
      → (slice_index_or blocks m 0 < op_count) × AreAlike bucket_count cells
      (slice_index_or blocks m 0) m
