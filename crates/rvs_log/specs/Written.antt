-- The line of an executed instruction in a log.
use Rattle.std.specs.Prelude.{ℕ, ◌<◌, ◌^◌, nat_lt, if◌then◌else◌, Option, Some, None, List, [], ◌∷◌}
use Rattle.std.specs.Prelude.{◌++◌, codes}
use Rattle.std.specs.Fmt.{decimal}
use Rattle.rvs_base.specs.Number.{hex_word_of}
use Rattle.rvs_machine.specs.Written.{Write}
use Rattle.rvs_machine.specs.declared.event.Executed.{Executed}

-- a register's number, filled with a space to two places on its right
abbrev pub padded : ℕ → List ℕ
padded reg = if nat_lt reg 10 then decimal reg ++ 32 ∷ [] else decimal reg

abbrev pub commit_text : Option Write → List ℕ
commit_text None = []
commit_text (Some w) = codes " x" ++ (padded w.reg ++ (codes " 0x" ++ hex_word_of w.value))

-- core   0: 3 0x<pc> (0x<word>), and with a commit its register and its value; no line feed
abbrev pub line_of : Executed → List ℕ
line_of e =
    codes "core   0: 3 0x" ++ (hex_word_of e.pc ++ (codes " (0x" ++ (hex_word_of e.word
    ++ (codes ")" ++ commit_text e.commit))))

-- a register and a word
abbrev pub IsSmall : Option Write → Type 0
IsSmall None = Unit {0}
IsSmall (Some w) = (w.reg < 32) × (w.value < 2 ^ 32)

-- what its numbers are by their types
pub record HasWords (e : Executed) : Type 0 where
  pub pc : e.pc < 2 ^ 32
  pub word : e.word < 2 ^ 32
  pub commit : IsSmall e.commit
