-- Where the bytes of lines lie in an image, and what labels mark.
use Rattle.std.specs.Prelude.{◌≡◌, ℕ, Bool, false, Some, List, ◌∷◌, ◌++◌, length, Contains}
use Rattle.std.specs.Prelude.{if◌then◌else◌}
use Rattle.rvs_insn.specs.Isa.{Isa}
use Rattle.rvs_asm_text.specs.Lines.{read_line}
use Rattle.rvs_machine.specs.Image.{ImageValue}
use Rattle.rvs_asm.specs.declared.location.Location.{Location}
use Rattle.rvs_asm.specs.Symbols.{Table, address_of, find_mark}
use Rattle.rvs_asm.specs.Locations.{Reading, body_of, label_of, size_of, offset, mark_of, start}
use Rattle.rvs_asm.specs.Locations.{location_after, labels}
use Rattle.rvs_asm.specs.Bytes.{bytes_of}
use Rattle.rvs_asm.specs.Faults.{is_misaligned}
use Rattle.rvs_asm.specs.Answer.{Assembles, text_readings}

-- A line that is read makes as many bytes as its size says, where the text stays in words.
abbrev pub LinesHaveTheirSizes : Type 0
LinesHaveTheirSizes =
    (env : List ℕ → ℕ) (p : Location) (line : List ℕ)
    → is_misaligned p (body_of (read_line p.in_text line)) ≡ false
    → length (bytes_of env p (body_of (read_line p.in_text line)))
    ≡ size_of (offset p) (body_of (read_line p.in_text line))

-- the bytes of an image's text, or of its data
abbrev pub section_in : Bool → ImageValue → List ℕ
section_in in_text image = if in_text then image.text else image.data_bytes

-- The line's bytes lie in the image at the offset of its location; its label marks their address
-- for the other lines, and is a symbol of the image with this address.
pub record Stands (image : ImageValue) (ss : Table) (p : Location) (line : Reading) : Type 0 where
  pub front : List ℕ
  pub back : List ℕ
  pub bytes : section_in p.in_text image
      ≡ front ++ (bytes_of (address_of ss) p (body_of line) ++ back)
  pub at : length front ≡ offset p
  pub label : (name : List ℕ) → label_of line ≡ Some name
      → find_mark ss name ≡ Some (mark_of p)
  pub symbol : (name : List ℕ) → label_of line ≡ Some name
      → Contains image.symbols (record { name = name; at = (mark_of p).at })

-- In the image of a text each line stands so in its location, behind the lines before it.
abbrev pub LinesStand : Type 0
LinesStand =
    (text : List ℕ) (isa : Isa) (image : ImageValue) → Assembles text isa image
    → (before : List Reading) (line : Reading) (behind : List Reading)
    → text_readings text ≡ before ++ line ∷ behind
    → Stands image (labels (text_readings text) (start isa.memory))
    (location_after before (start isa.memory)) line
