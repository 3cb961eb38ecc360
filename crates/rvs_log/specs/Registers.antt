-- The words of the registers while a log is read.
use Rattle.std.specs.Prelude.{ℕ, List, replicate}

-- before any instruction
unfoldable pub zeros : List ℕ
zeros = replicate 32 0
