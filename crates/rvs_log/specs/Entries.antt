-- The instructions of a log, each with the words that its registers had before it.
use Rattle.std.specs.Prelude.{ℕ, Bool, true, false, if◌then◌else◌, List, [], ◌∷◌, ◌++◌, map}
use Rattle.rvs_machine.specs.Traces.{applied, applied_if, word_of, rs1_of_word, rs2_of_word}
use Rattle.rvs_machine.specs.Written.{Write}
use Rattle.rvs_log.specs.Grammar.{Reading, Says, Writes, Nothing}
use Rattle.rvs_log.specs.Registers.{zeros}
use Rattle.rvs_log.specs.Lines.{lines_of, line_says}

pub record Entry : Type 0 where
  pub pc : ℕ
  pub word : ℕ
  -- the words of rs1 and rs2 before it, or 0
  pub v1 : ℕ
  pub v2 : ℕ

abbrev pub entry_at : List ℕ → ℕ → ℕ → Entry
entry_at words pc word = record {
  pc = pc;
  word = word;
  v1 = word_of words (rs1_of_word word);
  v2 = word_of words (rs2_of_word word);
}

-- after some lines: the words of the registers, and whether an instruction was there
pub record Heard : Type 0 where
  pub words : List ℕ
  pub started : Bool

-- before the first line
abbrev pub unheard : Heard
unheard = record { words = zeros; started = false }

-- a write on a line of its own counts after an instruction
abbrev pub heard_write : Heard → Write → Heard
heard_write h w = if h.started then record { words = applied h.words w; started = true } else h

abbrev pub hear : Heard → Reading → Heard
hear h (Says pc word w) = record { words = applied_if h.words w; started = true }
hear h (Writes w) = heard_write h w
hear h Nothing = h

abbrev pub heard : Heard → List Reading → Heard
heard h [] = h
heard h (r ∷ rs) = heard (hear h r) rs

abbrev pub entry_in : Heard → Reading → List Entry
entry_in h (Says pc word w) = entry_at h.words pc word ∷ []
entry_in h (Writes w) = []
entry_in h Nothing = []

abbrev pub entries_in : Heard → List Reading → List Entry
entries_in h [] = []
entries_in h (r ∷ rs) = entry_in h r ++ entries_in (hear h r) rs

-- the instructions of a log, in order
abbrev pub entries_of : List ℕ → List Entry
entries_of bytes = entries_in unheard (map line_says (lines_of bytes))
