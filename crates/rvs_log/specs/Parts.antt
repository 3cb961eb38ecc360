-- The ends of what a line is read as, each by itself.
use Rattle.std.specs.Prelude.{ℕ, List, Option, Some, codes}
use Rattle.rvs_machine.specs.Written.{Write}
use Rattle.rvs_text.specs.Options.{◌>>=◌}
use Rattle.rvs_log.specs.Grammar.{after_brackets, after_byte, after_core, after_privilege}
use Rattle.rvs_log.specs.Grammar.{after_some, after_text, at_end, blank, hex_at, is_capital}
use Rattle.rvs_log.specs.Grammar.{pc_and_word, spaced}

-- the address and the word behind a core and its privilege, and what follows them
abbrev pub core_and_words : List ℕ → Option (ℕ × ℕ × List ℕ)
core_and_words line = after_core line >>= pc_and_word

-- the same behind the front of a Sail log
abbrev pub brackets_and_words : List ℕ → Option (ℕ × ℕ × List ℕ)
brackets_and_words line = after_brackets line >>= pc_and_word

-- the word in parentheses after an address, and its bracket's other side: the address, the word and
-- what follows
abbrev pub word_and_end : ℕ → List ℕ → Option (ℕ × ℕ × List ℕ)
word_and_end pc bs = do
  word ← hex_at bs
  c ← after_byte 41 word.1
  d ← at_end c
  Some (pc, word.0, d)

-- spaces and the word that a register got, up to the end of its token
abbrev pub value_after : ℕ → List ℕ → Option Write
value_after reg bs = do
  b ← spaced bs
  value ← hex_at b
  c ← at_end value.1
  Some (record { reg = reg; value = value.0 })

-- an arrow and the word that a register got, to the end of the line
abbrev pub arrow_and_value : ℕ → List ℕ → Option Write
arrow_and_value reg bs = do
  c ← after_text (codes "<-") bs
  d ← spaced c
  value ← hex_at d
  e ← blank value.1
  Some (record { reg = reg; value = value.0 })

-- a colon and a privilege, and spaces after each
abbrev pub colon_and_privilege : List ℕ → Option (List ℕ)
colon_and_privilege bs = do
  d ← after_byte 58 bs
  e ← spaced d
  f ← after_privilege e
  spaced f

-- capital letters in brackets, a colon and spaces
abbrev pub capitals_and_colon : List ℕ → Option (List ℕ)
capitals_and_colon bs = do
  e ← after_byte 91 bs
  f ← after_some is_capital e
  g ← after_byte 93 f
  h ← after_byte 58 g
  spaced h
