-- How a text is cut into lines, and a line into its label, its first word and its operands.
use Rattle.std.specs.Prelude.{ℕ, ◌==◌, ◌||◌, ◌&&◌, nat_le, Bool, Option, Some, None, List, [], ◌∷◌}
use Rattle.std.specs.Prelude.{if◌then◌else◌, map}
use Rattle.rvs_base.specs.Lines.{before, after, onto_first, cut_lines, without_return}

-- ---- lines
-- the lines of a text, each without one carriage return at its end, also the last without a line
-- feed
abbrev pub lines_of : List ℕ → List (List ℕ)
lines_of text = map without_return (cut_lines text)

-- ---- blanks
abbrev pub is_blank : ℕ → Bool
is_blank c = c == 32 || c == 9

abbrev pub drop_blanks : List ℕ → List ℕ
drop_blanks [] = []
drop_blanks (c ∷ cs) = if is_blank c then drop_blanks cs else (c ∷ cs)

abbrev pub keep_end : ℕ → List ℕ → List ℕ
keep_end c [] = if is_blank c then [] else (c ∷ [])
keep_end c (d ∷ ds) = c ∷ d ∷ ds

abbrev pub trim_end : List ℕ → List ℕ
trim_end [] = []
trim_end (c ∷ cs) = keep_end c (trim_end cs)

-- the text without the blanks round it
abbrev pub trim : List ℕ → List ℕ
trim cs = trim_end (drop_blanks cs)

abbrev pub first_word : List ℕ → List ℕ
first_word [] = []
first_word (c ∷ cs) = if is_blank c then [] else (c ∷ first_word cs)

abbrev pub after_word : List ℕ → List ℕ
after_word [] = []
after_word (c ∷ cs) = if is_blank c then (c ∷ cs) else after_word cs

-- ---- operands
-- the parts between commas
abbrev pub parts : List ℕ → List (List ℕ)
parts [] = [] ∷ []
parts (c ∷ cs) = if c == 44 then ([] ∷ parts cs) else onto_first c (parts cs)

abbrev pub trim_all : List (List ℕ) → List (List ℕ)
trim_all [] = []
trim_all (t ∷ ts) = trim t ∷ trim_all ts

-- the operands of a statement's rest: none where it is empty
abbrev pub operands : List ℕ → List (List ℕ)
operands [] = []
operands (c ∷ cs) = trim_all (parts (c ∷ cs))

-- the operands in what is left of a statement's rest
abbrev pub operands_left : Option (List ℕ) → List (List ℕ)
operands_left None = []
operands_left (Some text) = trim_all (parts text)

-- ---- a line
pub record Tokens : Type 0 where
  pub label : Option (List ℕ)
  pub word : List ℕ
  pub args : List (List ℕ)

abbrev pub statement : Option (List ℕ) → List ℕ → Tokens
statement label text = record {
  label = label;
  word = first_word text;
  args = operands (drop_blanks (after_word text));
}

-- what stands before the comment, by what follows its first colon
abbrev pub labelled : List ℕ → Option (List ℕ) → Tokens
labelled text None = statement None (trim text)
labelled text (Some rest) = statement (Some (trim (before 58 text))) (trim rest)

abbrev pub before_comment : List ℕ → List ℕ
before_comment line = before 35 line

unfoldable pub tokens : List ℕ → Tokens
tokens line = labelled (before_comment line) (after 58 (before_comment line))

-- a byte that may stand outside the comment: a tab or printable ASCII
abbrev pub is_text_byte : ℕ → Bool
is_text_byte c = c == 9 || (nat_le 32 c && nat_le c 126)
