-- The image file: what its bytes say, line by line, or the first line that is faulty.
use Rattle.std.specs.Prelude.{ℕ, zero, suc, ◌/◌, ◌==◌, nat_le, nat_eq, if◌then◌else◌}
use Rattle.std.specs.Prelude.{Option}
use Rattle.std.specs.Prelude.{Some, None, Result, Ok, Err, List, [], ◌++◌, length, drop, codes}
use Rattle.std.specs.Prelude.{option_and_then}
use Rattle.std.specs.List.{starts_with}
use Rattle.std.specs.Int.{w32, to_le_bytes}
use Rattle.std.specs.Str.{bytes_eq}
use Rattle.rvs_text.specs.Outcomes.{◌>>=◌}
use Rattle.rvs_base.specs.Digits.{digits_of, short_number}
use Rattle.rvs_machine.specs.declared.reading.ImageKind.{ImageKind}
use Rattle.rvs_machine.specs.declared.reading.ImageKind.TheVariants.{BadLine, BadRegion, TooLarge}
use Rattle.rvs_machine.specs.declared.reading.ImageRefusal.{ImageRefusal}
use Rattle.rvs_machine.specs.declared.reading.Addresses.{Addresses}
use Rattle.rvs_insn.specs.Memory.{Memory, text_limit, data_limit}
use Rattle.rvs_machine.specs.Image.{ImageValue, is_image}
use Rattle.rvs_machine.specs.FileLines.{Rest, taken}

-- ---- the parts of a line

-- a word: eight hexadecimal digits
abbrev pub word_in : List ℕ → Option ℕ
word_in text = if length text == 8 then digits_of 16 text else None

-- a count: one to seven decimal digits
abbrev pub count_in : List ℕ → Option ℕ
count_in text = short_number 7 10 text

-- what follows a name at the start of a line
abbrev pub after_name : List ℕ → List ℕ → Option (List ℕ)
after_name name line = if starts_with nat_eq line name then Some (drop (length name) line) else None

-- ---- one line

abbrev pub refusal : ℕ → ImageKind → ImageRefusal
refusal line kind = record { line = line; kind = kind }

-- the first line
abbrev pub header_with : ℕ → Option (List ℕ × Rest) → Result Rest ImageRefusal
header_with n None = Err (refusal n BadLine)
header_with n (Some p) = if bytes_eq p.0 (codes "rvimage 1") then Ok p.1
    else Err (refusal n BadLine)

abbrev pub header : Rest → Result Rest ImageRefusal
header r = header_with r.line (taken r)

-- a line of a name and a word
abbrev pub word_with : ℕ → Rest → Option ℕ → Result (ℕ × Rest) ImageRefusal
word_with n rest None = Err (refusal n BadLine)
word_with n rest (Some word) = Ok (word, rest)

abbrev pub word_from : ℕ → List ℕ → Option (List ℕ × Rest) → Result (ℕ × Rest) ImageRefusal
word_from n name None = Err (refusal n BadLine)
word_from n name (Some p) = word_with n p.1 (option_and_then word_in (after_name name p.0))

abbrev pub word_line : List ℕ → Rest → Result (ℕ × Rest) ImageRefusal
word_line name r = word_from r.line name (taken r)

-- a line of a name and a count, which is no more than a limit
abbrev pub count_with : ℕ → ℕ → Rest → Option ℕ → Result (ℕ × Rest) ImageRefusal
count_with n limit rest None = Err (refusal n BadLine)
count_with n limit rest (Some count) = if nat_le count limit then Ok (count, rest)
    else Err (refusal n TooLarge)

abbrev pub count_from : ℕ → List ℕ → ℕ → Option (List ℕ × Rest) → Result (ℕ × Rest) ImageRefusal
count_from n name limit None = Err (refusal n BadLine)
count_from n name limit (Some p) =
    count_with n limit p.1 (option_and_then count_in (after_name name p.0))

abbrev pub count_line : List ℕ → ℕ → Rest → Result (ℕ × Rest) ImageRefusal
count_line name limit r = count_from r.line name limit (taken r)

-- ---- the lines together

-- the bytes of so many lines of one word each, the lowest byte of a word first
abbrev pub put_before : List ℕ → Result (List ℕ × Rest) ImageRefusal
    → Result (List ℕ × Rest) ImageRefusal
put_before bytes (Err e) = Err e
put_before bytes (Ok p) = Ok (bytes ++ p.0, p.1)

abbrev pub word_lines : ℕ → Rest → Result (List ℕ × Rest) ImageRefusal
word_lines zero r = Ok ([], r)
word_lines (suc n) r = do
  p ← word_line [] r
  put_before (to_le_bytes w32 p.0) (word_lines n p.1)

-- a count, and so many words
abbrev pub section : List ℕ → ℕ → Rest → Result (List ℕ × Rest) ImageRefusal
section name limit r = do
  p ← count_line name limit r
  word_lines p.0 p.1

-- the three addresses
abbrev pub address_lines : Rest → Result (Addresses × Rest) ImageRefusal
address_lines r = do
  h ← word_line (codes "tohost ") r
  b ← word_line (codes "begin ") h.1
  e ← word_line (codes "end ") b.1
  Ok (record { tohost = h.0; sig_begin = b.0; sig_end = e.0 }, e.1)

-- the image where nothing follows and its regions are in order
abbrev pub whole_with : ℕ → ImageValue → Option (List ℕ × Rest) → Result ImageValue ImageRefusal
whole_with n image None = if is_image image then Ok image else Err (refusal 0 BadRegion)
whole_with n image (Some p) = Err (refusal n BadLine)

abbrev pub whole : Memory → List ℕ → List ℕ → Addresses → Rest → Result ImageValue ImageRefusal
whole memory text ram a r =
    whole_with r.line (record {
      memory = memory;
      text = text;
      data_bytes = ram;
      tohost = a.tohost;
      sig_begin = a.sig_begin;
      sig_end = a.sig_end;
      symbols = [];
    }) (taken r)

-- the most words of text and of data
abbrev pub most_text : Memory → ℕ
most_text memory = text_limit memory / 4

abbrev pub most_data : Memory → ℕ
most_data memory = data_limit memory / 4

-- an image file: text, data and addresses
unfoldable pub image_of_bytes : Memory → List ℕ → Result ImageValue ImageRefusal
image_of_bytes memory bytes = do
  r ← header (record { bytes = bytes; line = 1 })
  t ← section (codes "text ") (most_text memory) r
  d ← section (codes "data ") (most_data memory) t.1
  a ← address_lines d.1
  whole memory t.0 d.0 a.0 a.1
