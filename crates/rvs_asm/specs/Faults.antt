-- What is wrong with a text, in the order in which it is reported.
use Rattle.std.specs.Prelude.{ℕ, ◌+◌, ℤ, pos, ◌%◌, ◌^◌, ◌==◌, ◌&&◌, not, nat_le, nat_lt, Bool, true}
use Rattle.std.specs.Prelude.{false}
use Rattle.std.specs.Prelude.{Option, Some, None, Ok, Err, List, [], ◌∷◌, ◌++◌, if◌then◌else◌}
use Rattle.std.specs.Prelude.{codes}
use Rattle.std.specs.Option.{option_map, option_or}
use Rattle.std.specs.List.{list_any}
use Rattle.rvs_insn.specs.Isa.{Isa}
use Rattle.rvs_insn.specs.declared.op.Format.{Format}
use Rattle.rvs_insn.specs.Table.{row}
use Rattle.rvs_insn.specs.Names.{is_admitted}
use Rattle.rvs_asm_text.specs.declared.bodies.Link.{Link}
use Rattle.rvs_asm_text.specs.declared.bodies.Link.TheVariants.{Own, High, Low, Distance, Whole}
use Rattle.rvs_asm_text.specs.declared.bodies.Value.{Value}
use Rattle.rvs_asm_text.specs.declared.bodies.Body.{Body}
use Rattle.rvs_asm_text.specs.declared.bodies.Body.TheVariants.{Insn, Values}
use Rattle.rvs_asm_text.specs.declared.bodies.LineFault.{LineFault}
use Rattle.rvs_asm_text.specs.declared.bodies.LineFault.TheVariants.{BadLine as LineBadLine}
use Rattle.rvs_asm_text.specs.declared.bodies.LineFault.TheVariants.{UnknownInstruction as LineUnknown}
use Rattle.rvs_asm_text.specs.declared.bodies.LineFault.TheVariants.{BadOperand as LineBadOperand}
use Rattle.rvs_asm_text.specs.declared.bodies.LineFault.TheVariants.{OutOfRange as LineOutOfRange}
use Rattle.rvs_asm_text.specs.Instructions.{in_field}
use Rattle.rvs_asm_text.specs.Directives.{data_value}
use Rattle.rvs_insn.specs.Memory.{text_limit, data_limit}
use Rattle.rvs_asm.specs.declared.mark.Mark.{Mark}
use Rattle.rvs_asm.specs.declared.location.Location.{Location}
use Rattle.rvs_asm.specs.declared.refusal.AsmKind.{AsmKind}
use Rattle.rvs_asm.specs.declared.refusal.AsmKind.TheVariants.{BadLine, UnknownInstruction}
use Rattle.rvs_asm.specs.declared.refusal.AsmKind.TheVariants.{BadOperand, OutOfRange}
use Rattle.rvs_asm.specs.declared.refusal.AsmKind.TheVariants.{UnknownSymbol, DoubleSymbol}
use Rattle.rvs_asm.specs.declared.refusal.AsmKind.TheVariants.{MisalignedCode, TextFull, DataFull}
use Rattle.rvs_asm.specs.declared.refusal.AsmKind.TheVariants.{NotInIsa}
use Rattle.rvs_asm.specs.declared.refusal.AsmRefusal.{AsmRefusal}
use Rattle.rvs_asm.specs.Symbols.{Table, find_mark, has_mark}
use Rattle.rvs_asm.specs.Locations.{Reading, body_of, label_of, size_of, offset, address, next}
use Rattle.rvs_asm.specs.Locations.{own_label}
use Rattle.rvs_asm.specs.Bytes.{high, low, distance}

-- ---- a line under the lines before it
abbrev pub kind_of : LineFault → AsmKind
kind_of LineBadLine = BadLine
kind_of LineUnknown = UnknownInstruction
kind_of LineBadOperand = BadOperand
kind_of (LineOutOfRange z) = OutOfRange z

abbrev pub is_double : Table → Option (List ℕ) → Bool
is_double ss None = false
is_double ss (Some name) = has_mark ss name

abbrev pub is_misaligned : Location → Body → Bool
is_misaligned p body = p.in_text && not (size_of (offset p) body % 4 == 0)

abbrev pub is_refused : Isa → Body → Bool
is_refused isa (Insn i link) = not (is_admitted isa i)
is_refused isa _ = false

-- the fault of a statement, the least kind first
abbrev pub body_fault : Isa → Location → Body → Option AsmKind
body_fault isa p body =
    if is_misaligned p body then Some MisalignedCode
    else (if not (nat_le (next p body).text (text_limit (next p body).memory)) then Some TextFull
    else (if not (nat_le (next p body).data_bytes (data_limit (next p body).memory))
    then Some DataFull
    else (if is_refused isa body then Some NotInIsa else None)))

-- there is no address for a label behind a region that ends at 2^32: its section is full
abbrev pub label_fault : Option (List ℕ) → Location → Option AsmKind
label_fault None p = None
label_fault (Some name) p = if nat_lt (address p) (2 ^ 32) then None
    else Some (if p.in_text then TextFull else DataFull)

abbrev pub fault : Isa → Table → Location → Reading → Option AsmKind
fault isa ss p (Err f) = Some (kind_of f)
fault isa ss p (Ok line) = if is_double ss line.label then Some DoubleSymbol
    else option_or (body_fault isa p line.body) (label_fault line.label p)

abbrev pub at_line : ℕ → Option AsmKind → Option AsmRefusal
at_line n kind = option_map (λ k. record { line = n; kind = k }) kind

-- the first fault of lines, with its number: the first line is number n, and these are the symbols
-- before it
abbrev pub first_fault : Isa → Table → Location → ℕ → List Reading → Option AsmRefusal
first_fault isa ss p n [] = None
first_fault isa ss p n (r ∷ rs) = option_or (at_line n (fault isa ss p r))
    (first_fault isa (ss ++ own_label (label_of r) p) (next p (body_of r)) (n + 1) rs)

-- ---- a line under all symbols
-- a symbol is there, and the number that its address gives stands in the field
abbrev pub field_fault : Format → (ℕ → ℤ) → Option Mark → Option AsmKind
field_fault form number None = Some UnknownSymbol
field_fault form number (Some m) = if in_field form (number m.at) then None
    else Some (OutOfRange (number m.at))

abbrev pub link_fault : Table → Format → ℕ → Link → Option AsmKind
link_fault ss form pc Own = None
link_fault ss form pc (High s) = field_fault form (λ at. pos (high at)) (find_mark ss s)
link_fault ss form pc (Low s) = field_fault form low (find_mark ss s)
link_fault ss form pc (Distance s) = field_fault form (λ at. distance at pc) (find_mark ss s)
link_fault ss form pc (Whole s) = field_fault form pos (find_mark ss s)

abbrev pub lacks_link : Table → Link → Bool
lacks_link ss (Whole s) = not (has_mark ss s)
lacks_link ss _ = false

abbrev pub lacks_symbol : Table → Option Value → Bool
lacks_symbol ss None = false
lacks_symbol ss (Some v) = lacks_link ss v.link

abbrev pub values_fault : Table → ℕ → List (List ℕ) → Option AsmKind
values_fault ss size args =
    if list_any (λ text. lacks_symbol ss (data_value size text)) args then Some UnknownSymbol
    else None

abbrev pub symbol_fault : Table → ℕ → Body → Option AsmKind
symbol_fault ss pc (Insn i link) = link_fault ss (row i.op).form pc link
symbol_fault ss pc (Values size args) = values_fault ss size args
symbol_fault ss pc _ = None

abbrev pub second_fault : Table → Location → ℕ → List Reading → Option AsmRefusal
second_fault ss p n [] = None
second_fault ss p n (r ∷ rs) = option_or (at_line n (symbol_fault ss (address p) (body_of r)))
    (second_fault ss (next p (body_of r)) (n + 1) rs)

-- ---- the text as a whole
-- a name that is no symbol of data
abbrev pub is_missing : Option Mark → Bool
is_missing None = true
is_missing (Some m) = m.in_text

-- the symbols that a text needs
abbrev pub needed : List (List ℕ)
needed = codes "tohost" ∷ codes "begin_signature" ∷ codes "end_signature" ∷ []

abbrev pub first_missing : Table → List (List ℕ) → Option (List ℕ)
first_missing ss [] = None
first_missing ss (name ∷ names) = if is_missing (find_mark ss name) then Some name
    else first_missing ss names
