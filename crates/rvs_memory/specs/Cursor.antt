-- Where an open file in memory is read.
use Rattle.std.specs.Prelude.{ℕ, List, [], drop, Option, Some, None, slice_index_or}
use Rattle.rvs_memory.specs.declared.memory_host.Cursor.{Cursor}

-- what is left of the open file, and nothing where none is open
abbrev pub rest_of : List (List ℕ × List ℕ) → Option Cursor → List ℕ
rest_of files None = []
rest_of files (Some cursor) = drop cursor.taken (slice_index_or files cursor.file ([], [])).1
