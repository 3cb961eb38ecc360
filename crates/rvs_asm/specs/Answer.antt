-- The image that stands to a text, or the first reason why none does.
use Rattle.std.specs.Prelude.{◌≡◌, ℕ, true, false, Option, Some, None, Result, Ok, Err, List}
use Rattle.std.specs.Prelude.{[], codes}
use Rattle.rvs_insn.specs.Isa.{Isa}
use Rattle.rvs_insn.specs.Memory.{Memory}
use Rattle.rvs_asm_text.specs.Text.{lines_of}
use Rattle.rvs_machine.specs.Image.{ImageValue, if_image, IsImage}
use Rattle.rvs_asm.specs.declared.refusal.AsmKind.TheVariants.{MissingSymbol, BadRegion}
use Rattle.rvs_asm.specs.declared.refusal.AsmRefusal.{AsmRefusal}
use Rattle.rvs_asm.specs.Symbols.{Table, address_of, symbols_of}
use Rattle.rvs_asm.specs.Locations.{Reading, readings, start, labels}
use Rattle.rvs_asm.specs.Bytes.{section}
use Rattle.rvs_asm.specs.Faults.{first_fault, second_fault, first_missing, needed}

-- the lines of a text, as they are read
abbrev pub text_readings : List ℕ → List Reading
text_readings text = readings true (lines_of text)

-- the image of these symbols, with these bytes of text and of data
abbrev pub parts_of : Memory → Table → List ℕ → List ℕ → ImageValue
parts_of memory ss text_bytes data_bytes = record {
  memory = memory;
  text = text_bytes;
  data_bytes = data_bytes;
  tohost = address_of ss (codes "tohost");
  sig_begin = address_of ss (codes "begin_signature");
  sig_end = address_of ss (codes "end_signature");
  symbols = symbols_of ss;
}

-- what read lines make under their symbols
abbrev pub image_of : Memory → Table → List Reading → ImageValue
image_of memory ss rs =
    parts_of memory ss (section true (address_of ss) rs (start memory))
    (section false (address_of ss) rs (start memory))

abbrev pub region_checked : Option ImageValue → Result ImageValue AsmRefusal
region_checked None = Err (record { line = 0; kind = BadRegion })
region_checked (Some image) = Ok image

abbrev pub if_all_there : Option (List ℕ) → ImageValue → Result ImageValue AsmRefusal
if_all_there (Some name) image = Err (record { line = 0; kind = MissingSymbol name })
if_all_there None image = region_checked (if_image image)

abbrev pub if_linked : Memory → Option AsmRefusal → Table → List Reading
    → Result ImageValue AsmRefusal
if_linked memory (Some refusal) ss rs = Err refusal
if_linked memory None ss rs = if_all_there (first_missing ss needed) (image_of memory ss rs)

abbrev pub if_placed : Memory → Option AsmRefusal → List Reading → Result ImageValue AsmRefusal
if_placed memory (Some refusal) rs = Err refusal
if_placed memory None rs =
    if_linked memory (second_fault (labels rs (start memory)) (start memory) 1 rs)
    (labels rs (start memory)) rs

-- the image, or the first refusal: first the lines by themselves, then under all symbols, then the
-- text as a whole
unfoldable pub answer : Isa → List ℕ → Result ImageValue AsmRefusal
answer isa text =
    if_placed isa.memory (first_fault isa [] (start isa.memory) 1 (text_readings text))
    (text_readings text)

-- the image stands to the text: its lines are in order, and it has their bytes, symbols and marks
pub record Assembles (text : List ℕ) (isa : Isa) (image : ImageValue) : Type 0 where
  -- each line can be read and stands in a section that has room for it
  pub placed : first_fault isa [] (start isa.memory) 1 (text_readings text) ≡ None
  -- each symbol that a line names is there, and near enough
  pub linked : second_fault (labels (text_readings text) (start isa.memory)) (start isa.memory) 1
      (text_readings text) ≡ None
  -- the symbols that a text needs are symbols of data
  pub marked : first_missing (labels (text_readings text) (start isa.memory)) needed ≡ None
  -- the bytes, the marks and the symbols are those of the lines
  pub made : image ≡ image_of isa.memory (labels (text_readings text) (start isa.memory))
      (text_readings text)
  -- its regions are in order
  pub regions : IsImage image
