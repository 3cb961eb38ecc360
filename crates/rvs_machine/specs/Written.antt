-- What an instruction wrote.
use Rattle.std.specs.Prelude.{ℕ}

-- a register and its new word
pub record Write : Type 0 where
  pub reg : ℕ
  pub value : ℕ
