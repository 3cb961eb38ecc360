-- Where each line stands, and what each symbol marks.
use Rattle.std.specs.Prelude.{◌≡◌, ◌≤◌, ◌<◌, is_ok, ℕ, ◌+◌, ◌-◌, ◌*◌, ◌%◌, ◌^◌, Bool, true}
use Rattle.std.specs.Prelude.{false}
use Rattle.std.specs.Prelude.{Option, Some, None, Result, Ok, Err, List, [], ◌∷◌, ◌++◌, length}
use Rattle.std.specs.Prelude.{if◌then◌else◌}
use Rattle.rvs_asm_text.specs.declared.bodies.Body.{Body}
use Rattle.rvs_asm_text.specs.declared.bodies.Body.TheVariants.{Nothing, ToText, ToData, Insn}
use Rattle.rvs_asm_text.specs.declared.bodies.Body.TheVariants.{Values, Align, Fill}
use Rattle.rvs_asm_text.specs.declared.bodies.Line.{Line}
use Rattle.rvs_asm_text.specs.declared.bodies.LineFault.{LineFault}
use Rattle.rvs_asm_text.specs.Lines.{read_line}
use Rattle.rvs_insn.specs.Memory.{Memory, text_limit, data_limit}
use Rattle.rvs_asm.specs.declared.location.Location.{Location}
use Rattle.rvs_asm.specs.declared.mark.Mark.{Mark}
use Rattle.rvs_asm.specs.Symbols.{Table}

-- a line as it was read, or its fault
abbrev pub Reading : Type 0
Reading = Result Line LineFault

-- a faulty line makes nothing and marks nothing: its fault is the answer
abbrev pub body_of : Reading → Body
body_of (Ok line) = line.body
body_of (Err fault) = Nothing

abbrev pub label_of : Reading → Option (List ℕ)
label_of (Ok line) = line.label
label_of (Err fault) = None

-- whether the text goes on after a line
abbrev pub goes_on : Bool → Body → Bool
goes_on in_text ToText = true
goes_on in_text ToData = false
goes_on in_text _ = in_text

-- the lines of a text, each read in the section that it stands in
abbrev pub readings : Bool → List (List ℕ) → List Reading
readings in_text [] = []
readings in_text (l ∷ ls) =
    read_line in_text l ∷ readings (goes_on in_text (body_of (read_line in_text l))) ls

-- how far it is to the next multiple of n
abbrev pub padding : ℕ → ℕ → ℕ
padding at n = (n - at % n) % n

-- how many bytes a statement makes, at its offset in its section
abbrev pub size_of : ℕ → Body → ℕ
size_of at Nothing = 0
size_of at ToText = 0
size_of at ToData = 0
size_of at (Insn i link) = 4
size_of at (Values size args) = length args * size
size_of at (Align power) = padding at (2 ^ power)
size_of at (Fill n size z) = n * size

abbrev pub start : Memory → Location
start memory = record { memory = memory; in_text = true; text = 0; data_bytes = 0 }

abbrev pub offset : Location → ℕ
offset p = if p.in_text then p.text else p.data_bytes

abbrev pub address : Location → ℕ
address p = if p.in_text then p.memory.text_base + p.text else p.memory.data_base + p.data_bytes

abbrev pub moved : Location → ℕ → Location
moved p n =
    if p.in_text then record {
      memory = p.memory;
      in_text = true;
      text = p.text + n;
      data_bytes = p.data_bytes;
    } else record {
      memory = p.memory;
      in_text = false;
      text = p.text;
      data_bytes = p.data_bytes + n;
    }

-- the location after a statement
abbrev pub next : Location → Body → Location
next p ToText = record {
  memory = p.memory;
  in_text = true;
  text = p.text;
  data_bytes = p.data_bytes;
}
next p ToData = record {
  memory = p.memory;
  in_text = false;
  text = p.text;
  data_bytes = p.data_bytes;
}
next p body = moved p (size_of (offset p) body)

abbrev pub location_after : List Reading → Location → Location
location_after [] p = p
location_after (r ∷ rs) p = location_after rs (next p (body_of r))

-- what a label marks there
abbrev pub mark_of : Location → Mark
mark_of p = record { at = address p; in_text = p.in_text }

abbrev pub own_label : Option (List ℕ) → Location → Table
own_label None p = []
own_label (Some name) p = (name, mark_of p) ∷ []

-- the symbols of lines from a location on
abbrev pub labels : List Reading → Location → Table
labels [] p = []
labels (r ∷ rs) p = own_label (label_of r) p ++ labels rs (next p (body_of r))

-- the sections keep their lengths
pub record IsLocation (p : Location) : Type 0 where
  pub text_short : p.text ≤ text_limit p.memory
  pub data_short : p.data_bytes ≤ data_limit p.memory
  pub words : p.text % 4 ≡ 0

-- each line leaves its section within its length
abbrev pub AreShort : Location → List Reading → Type 0
AreShort p [] = Unit {0}
AreShort p (r ∷ rs) = IsLocation (next p (body_of r)) × AreShort (next p (body_of r)) rs

-- what a label marks is an address, where there is one: behind a region that ends at 2^32 is none
abbrev pub IsMarked : Option (List ℕ) → Location → Type 0
IsMarked None p = Unit {0}
IsMarked (Some name) p = address p < 2 ^ 32

-- each line can be read
abbrev pub AreRead : List Reading → Type 0
AreRead [] = Unit {0}
AreRead (r ∷ rs) = (is_ok r ≡ true) × AreRead rs
