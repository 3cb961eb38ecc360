-- Which bytes a line makes, under the symbols of the whole text.
use Rattle.std.specs.Prelude.{ℕ, zero, suc, ◌+◌, ◌/◌, ◌%◌, ◌^◌, ◌-ℤ◌, ℤ, pos, Bool, not, Option}
use Rattle.std.specs.Prelude.{Some, None, List, [], ◌∷◌, ◌++◌, take, if◌then◌else◌}
use Rattle.std.specs.List.{flat_map}
use Rattle.std.specs.Int.{w32, to_le_bytes}
use Rattle.rvs_insn.specs.Fields.{Fields, signed}
use Rattle.rvs_insn.specs.Word.{word_of, low_bits}
use Rattle.rvs_asm_text.specs.declared.bodies.Link.{Link}
use Rattle.rvs_asm_text.specs.declared.bodies.Link.TheVariants.{Own, High, Low, Distance, Whole}
use Rattle.rvs_asm_text.specs.declared.bodies.Value.{Value}
use Rattle.rvs_asm_text.specs.declared.bodies.Body.{Body}
use Rattle.rvs_asm_text.specs.declared.bodies.Body.TheVariants.{Insn, Values, Align, Fill}
use Rattle.rvs_asm_text.specs.Directives.{data_value}
use Rattle.rvs_asm.specs.declared.location.Location.{Location}
use Rattle.rvs_asm.specs.Locations.{Reading, body_of, padding, offset, address, next}

-- %hi(s): what lui has to give so that the signed %lo(s) makes up the rest
abbrev pub high : ℕ → ℕ
high s = (s + 0x800) / 2 ^ 12 % 2 ^ 20

-- %lo(s): the low 12 bits, read as a signed number
abbrev pub low : ℕ → ℤ
low s = signed 12 (s % 2 ^ 12)

-- how far it is from one address to another
abbrev pub distance : ℕ → ℕ → ℤ
distance target pc = pos target -ℤ pos pc

abbrev pub with_imm : Fields → ℤ → Fields
with_imm i z = record { op = i.op; rd = i.rd; rs1 = i.rs1; rs2 = i.rs2; imm = Some z }

-- an instruction at an address, with its immediate
abbrev pub linked : (List ℕ → ℕ) → ℕ → Fields → Link → Fields
linked env pc i Own = i
linked env pc i (High s) = with_imm i (pos (high (env s)))
linked env pc i (Low s) = with_imm i (low (env s))
linked env pc i (Distance s) = with_imm i (distance (env s) pc)
linked env pc i (Whole s) = with_imm i (pos (env s))

-- the number of a value of data
abbrev pub value_in : (List ℕ → ℕ) → Link → ℤ → ℤ
value_in env (Whole s) z = pos (env s)
value_in env _ z = z

-- a number in so many bytes, up to four, the least first
abbrev pub number_bytes : ℕ → ℤ → List ℕ
number_bytes size z = take size (to_le_bytes w32 (low_bits 32 z))

abbrev pub value_bytes : (List ℕ → ℕ) → ℕ → Option Value → List ℕ
value_bytes env size None = []
value_bytes env size (Some v) = number_bytes size (value_in env v.link v.number)

abbrev pub repeated : ℕ → List ℕ → List ℕ
repeated zero bytes = []
repeated (suc n) bytes = bytes ++ repeated n bytes

-- addi x0, x0, 0
abbrev pub nop_word : ℕ
nop_word = 0x13

-- nops in text, zeros in data
abbrev pub filler : Bool → ℕ → List ℕ
filler in_text n = if in_text then repeated (n / 4) (to_le_bytes w32 nop_word)
    else repeated n (0 ∷ [])

abbrev pub bytes_of : (List ℕ → ℕ) → Location → Body → List ℕ
bytes_of env p (Insn i link) = to_le_bytes w32 (word_of (linked env (address p) i link))
bytes_of env p (Values size args) =
    flat_map (λ text. value_bytes env size (data_value size text)) args
bytes_of env p (Align power) = filler p.in_text (padding (offset p) (2 ^ power))
bytes_of env p (Fill n size z) = repeated n (number_bytes size z)
bytes_of env p _ = []

-- the bytes of one section, text or data, from lines that begin in a location
abbrev pub section : Bool → (List ℕ → ℕ) → List Reading → Location → List ℕ
section text env [] p = []
section text env (r ∷ rs) p =
    (if (if text then p.in_text else not p.in_text) then bytes_of env p (body_of r) else [])
    ++ section text env rs (next p (body_of r))
