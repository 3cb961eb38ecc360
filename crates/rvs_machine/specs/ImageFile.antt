-- The image file as it is written, and that it is read as what it says.
use Rattle.std.specs.Prelude.{◌≡◌, ◌≤◌, ◌<◌, ℕ, ◌^◌, List, [], ◌∷◌, ◌++◌, length, codes}
use Rattle.std.specs.Prelude.{if◌then◌else◌, Result, Ok, Err}
use Rattle.std.specs.Fmt.{decimal}
use Rattle.std.specs.Int.{w32, to_le_bytes}
use Rattle.rvs_base.specs.Number.{hex_word_of}
use Rattle.rvs_machine.specs.declared.reading.ImageKind.TheVariants.{BadRegion}
use Rattle.rvs_machine.specs.declared.reading.ImageRefusal.{ImageRefusal}
use Rattle.rvs_machine.specs.declared.reading.Addresses.{Addresses}
use Rattle.rvs_insn.specs.Memory.{Memory}
use Rattle.rvs_machine.specs.Image.{ImageValue, is_image}
use Rattle.rvs_machine.specs.ImageText.{refusal, most_text, most_data, image_of_bytes}

-- a line of a name and digits, and what follows it
abbrev pub line_of : List ℕ → List ℕ → List ℕ → List ℕ
line_of name digits rest = (name ++ digits) ++ 10 ∷ rest

-- words, one a line
abbrev pub words_of : List ℕ → List ℕ → List ℕ
words_of [] rest = rest
words_of (w ∷ ws) rest = line_of [] (hex_word_of w) (words_of ws rest)

abbrev pub section_of : List ℕ → List ℕ → List ℕ → List ℕ
section_of name ws rest = line_of name (decimal (length ws)) (words_of ws rest)

-- the file of these words of text and data and these addresses
abbrev pub file_of : List ℕ → List ℕ → Addresses → List ℕ
file_of text ram at =
    line_of (codes "rvimage 1") [] (section_of (codes "text ") text (section_of (codes "data ") ram
    (line_of (codes "tohost ") (hex_word_of at.tohost) (line_of (codes "begin ")
    (hex_word_of at.sig_begin) (line_of (codes "end ") (hex_word_of at.sig_end) [])))))

-- the bytes of words, the lowest of a word first
abbrev pub bytes_of : List ℕ → List ℕ
bytes_of [] = []
bytes_of (w ∷ ws) = to_le_bytes w32 w ++ bytes_of ws

abbrev pub AreWords : List ℕ → Type 0
AreWords [] = Unit {0}
AreWords (w ∷ ws) = (w < 2 ^ 32) × AreWords ws

-- the image where its regions are in order
abbrev pub judged : ImageValue → Result ImageValue ImageRefusal
judged image = if is_image image then Ok image else Err (refusal 0 BadRegion)

-- what is written is read
abbrev pub FilesReadBack : Type 0
FilesReadBack =
    (memory : Memory) (text ram : List ℕ) (at : Addresses) → AreWords text → AreWords ram
    → AreWords (at.tohost ∷ at.sig_begin ∷ at.sig_end ∷ []) → length text ≤ most_text memory
    → length ram ≤ most_data memory
    → image_of_bytes memory (file_of text ram at) ≡ judged (record {
      memory = memory;
      text = bytes_of text;
      data_bytes = bytes_of ram;
      tohost = at.tohost;
      sig_begin = at.sig_begin;
      sig_end = at.sig_end;
      symbols = [];
    })
