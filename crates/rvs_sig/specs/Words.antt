-- The words of a signature file.
use Rattle.std.specs.Prelude.{◌≡◌, ℕ, ◌+◌, ◌*◌, ◌==◌, ◌&&◌, nat_lt, if◌then◌else◌, List, []}
use Rattle.std.specs.Prelude.{◌∷◌, ◌++◌, length, take, slice_index, position, Option, Some, None}
use Rattle.std.specs.Prelude.{is_none}
use Rattle.std.specs.Prelude.{option_and_then, Result, Ok, Err}
use Rattle.std.specs.List.{filter_map, flat_map}
use Rattle.hex.specs.Hex.{hex_digit_value}
use Rattle.rvs_base.specs.Number.{hex_word_of}
use Rattle.rvs_base.specs.Lines.{cut_lines}
use Rattle.rvs_sig.specs.declared.words.SigRefusal.{SigRefusal}
use Rattle.rvs_sig.specs.declared.words.SigRefusal.TheVariants.{BadLine, TooLong}

-- a file has at most this many lines
abbrev pub most_lines : ℕ
most_lines = 262144

-- the number that hexadecimal digits of either case go on from
abbrev pub value_onto : ℕ → List ℕ → Option ℕ
value_onto front [] = Some front
value_onto front (digit ∷ digits) =
    option_and_then (λ value. value_onto (16 * front + value) digits) (hex_digit_value digit)

-- a line without a carriage return after eight bytes
abbrev pub digits_of_line : List ℕ → List ℕ
digits_of_line line = if length line == 9 && slice_index line 8 == 13 then take 8 line else line

-- the word of exactly eight digits
abbrev pub word_of_digits : List ℕ → Option ℕ
word_of_digits digits = if length digits == 8 then value_onto 0 digits else None

abbrev pub word_of_line : List ℕ → Option ℕ
word_of_line line = word_of_digits (digits_of_line line)

-- the first line of a text has this word, or none, and this text follows it
pub record HasLine (text : List ℕ) (word : Option ℕ) (rest : List ℕ) : Type 0 where
  pub line : List ℕ
  pub cut : cut_lines text ≡ line ∷ cut_lines rest
  pub reads : word_of_line line ≡ word

-- the place of the first line that has no word
abbrev pub first_bad : List (List ℕ) → Option ℕ
first_bad lines = position (λ line. is_none (word_of_line line)) lines

-- the words of good lines
abbrev pub words_of_good : List (List ℕ) → Result (List ℕ) SigRefusal
words_of_good lines = if nat_lt most_lines (length lines) then Err TooLong
    else Ok (filter_map word_of_line lines)

-- a bad line, counted from 1, is refused before a line too many
abbrev pub words_unless_bad : List (List ℕ) → Option ℕ → Result (List ℕ) SigRefusal
words_unless_bad lines None = words_of_good lines
words_unless_bad lines (Some bad) = Err (BadLine (bad + 1))

abbrev pub words_of_lines : List (List ℕ) → Result (List ℕ) SigRefusal
words_of_lines lines = words_unless_bad lines (first_bad (take most_lines lines))

-- the words of a file, or why it has none
unfoldable pub words_of : List ℕ → Result (List ℕ) SigRefusal
words_of bytes = words_of_lines (cut_lines bytes)

-- words as text, one a line
abbrev pub text_of_words : List ℕ → List ℕ
text_of_words words = flat_map (λ word. hex_word_of word ++ 10 ∷ []) words
