-- What a directive's word and operands are.
use Rattle.std.specs.Prelude.{ℕ, ◌-◌, ◌*◌, ◌^◌, ◌==◌, ◌||◌, not, Bool, false, Option, Some, None}
use Rattle.std.specs.Prelude.{is_none, Result, Ok, Err, List, [], ◌∷◌, if◌then◌else◌, ℤ, pos}
use Rattle.std.specs.Prelude.{negsuc, int_le, codes}
use Rattle.std.specs.Option.{option_map, option_or}
use Rattle.std.specs.List.{find, list_any}
use Rattle.std.specs.Str.{bytes_eq}
use Rattle.rvs_asm_text.specs.declared.bodies.Link.TheVariants.{Whole}
use Rattle.rvs_asm_text.specs.declared.bodies.Value.{Value}
use Rattle.rvs_asm_text.specs.declared.bodies.Body.{Body}
use Rattle.rvs_asm_text.specs.declared.bodies.Body.TheVariants.{Nothing, ToText, ToData, Values}
use Rattle.rvs_asm_text.specs.declared.bodies.Body.TheVariants.{Align, Fill}
use Rattle.rvs_asm_text.specs.declared.bodies.LineFault.{LineFault}
use Rattle.rvs_asm_text.specs.declared.bodies.LineFault.TheVariants.{BadLine, BadOperand}
use Rattle.rvs_asm_text.specs.declared.bodies.LineFault.TheVariants.{OutOfRange}
use Rattle.rvs_asm_text.specs.declared.directives.Directive.{Directive}
use Rattle.rvs_asm_text.specs.declared.directives.Directive.TheVariants.{Text, Data, Globl}
use Rattle.rvs_asm_text.specs.declared.directives.Directive.TheVariants.{Option as OptionWord}
use Rattle.rvs_asm_text.specs.declared.directives.Directive.TheVariants.{Align as AlignWord}
use Rattle.rvs_asm_text.specs.declared.directives.Directive.TheVariants.{P2align, Word, Half, Byte}
use Rattle.rvs_asm_text.specs.declared.directives.Directive.TheVariants.{Zero, Fill as FillWord}
use Rattle.rvs_asm_text.specs.Text.{is_blank}
use Rattle.rvs_asm_text.specs.Numbers.{number_of}
use Rattle.rvs_asm_text.specs.Operands.{is_empty, symbol_of, only, triple}
use Rattle.rvs_asm_text.specs.Header.{after_front}
use Rattle.rvs_asm_text.specs.Instructions.{number_value, within}

abbrev pub directive_name : Directive → List ℕ
directive_name Text = codes ".text"
directive_name Data = codes ".data"
directive_name Globl = codes ".globl"
directive_name OptionWord = codes ".option"
directive_name AlignWord = codes ".align"
directive_name P2align = codes ".p2align"
directive_name Word = codes ".word"
directive_name Half = codes ".half"
directive_name Byte = codes ".byte"
directive_name Zero = codes ".zero"
directive_name FillWord = codes ".fill"

abbrev pub directives : List Directive
directives = Text ∷ Data ∷ Globl ∷ OptionWord ∷ AlignWord ∷ P2align ∷ Word ∷ Half ∷ Byte ∷ Zero
    ∷ FillWord ∷ []

unfoldable pub directive_of : List ℕ → Option Directive
directive_of word = find (λ d. bytes_eq (directive_name d) word) directives

-- ---- numbers in data
-- a number of so many bytes, signed or unsigned
abbrev pub fits : ℕ → ℤ → Bool
fits size z = within (negsuc (2 ^ (8 * size - 1) - 1)) (pos (2 ^ (8 * size) - 1)) z

-- a number, or for words a symbol
abbrev pub data_value : ℕ → List ℕ → Option Value
data_value size text = option_or (number_value text) (if size == 4 then option_map (λ s. record {
  number = pos 0;
  link = Whole s;
}) (symbol_of text) else None)

abbrev pub is_no_value : ℕ → List ℕ → Bool
is_no_value size text = is_none (data_value size text)

abbrev pub wide : ℕ → Option Value → Option ℤ
wide size None = None
wide size (Some v) = if fits size v.number then None else Some v.number

abbrev pub first_wide : ℕ → List (List ℕ) → Option ℤ
first_wide size [] = None
first_wide size (a ∷ args) = option_or (wide size (data_value size a)) (first_wide size args)

abbrev pub unless_wide : Option ℤ → Body → Result Body LineFault
unless_wide None body = Ok body
unless_wide (Some z) body = Err (OutOfRange z)

abbrev pub values : ℕ → List (List ℕ) → Result Body LineFault
values size [] = Err BadOperand
values size (a ∷ args) =
    if list_any (is_no_value size) (a ∷ args) then Err BadOperand
    else unless_wide (first_wide size (a ∷ args)) (Values size (a ∷ args))

-- what keeps operands from being values: one that is none, wherever it stands, else the first
-- number outside the size
abbrev pub values_fault : ℕ → List (List ℕ) → Option LineFault
values_fault size args =
    if list_any (is_no_value size) args then Some BadOperand
    else option_map OutOfRange (first_wide size args)

-- ---- the other operands
abbrev pub without_operands : Body → List (List ℕ) → Result Body LineFault
without_operands body [] = Ok body
without_operands body (a ∷ args) = Err BadOperand

-- one word
abbrev pub one_word : Option (List ℕ) → Result Body LineFault
one_word None = Err BadOperand
one_word (Some a) = if list_any is_blank a then Err BadOperand else Ok Nothing

abbrev pub aligned : Option ℤ → Result Body LineFault
aligned None = Err BadOperand
aligned (Some (pos n)) = if within (pos 0) (pos 12) (pos n) then Ok (Align n)
    else Err (OutOfRange (pos n))
aligned (Some (negsuc n)) = Err (OutOfRange (negsuc n))

abbrev pub zeroed : Option ℤ → Result Body LineFault
zeroed None = Err BadOperand
zeroed (Some (pos n)) = Ok (Fill n 1 (pos 0))
zeroed (Some (negsuc n)) = Err (OutOfRange (negsuc n))

abbrev pub is_size : ℤ → Bool
is_size (pos n) = n == 1 || n == 2 || n == 4
is_size (negsuc n) = false

abbrev pub natural : ℤ → ℕ
natural (pos n) = n
natural (negsuc n) = 0

abbrev pub filled : Option ℤ → Option ℤ → Option ℤ → Result Body LineFault
filled (Some n) (Some size) (Some z) =
    if int_le (pos 0) n then
    (if is_size size then
    (if fits (natural size) z then Ok (Fill (natural n) (natural size) z) else Err (OutOfRange z))
    else Err (OutOfRange size))
    else Err (OutOfRange n)
filled _ _ _ = Err BadOperand

abbrev pub number_of_one : Option (List ℕ) → Option ℤ
number_of_one None = None
number_of_one (Some a) = number_of a

abbrev pub filled_by : Option (List ℕ × List ℕ × List ℕ) → Result Body LineFault
filled_by None = Err BadOperand
filled_by (Some (n, size, value)) = filled (number_of n) (number_of size) (number_of value)

abbrev pub directed : Directive → List (List ℕ) → Result Body LineFault
directed Text args = without_operands ToText args
directed Data args = without_operands ToData args
directed Globl args = one_word (only args)
directed OptionWord args = one_word (only args)
directed AlignWord args = aligned (number_of_one (only args))
directed P2align args = aligned (number_of_one (only args))
directed Word args = values 4 args
directed Half args = values 2 args
directed Byte args = values 1 args
directed Zero args = zeroed (number_of_one (only args))
directed FillWord args = filled_by (triple args)

-- ---- .section: its first operand begins with the section's name
abbrev pub begins : List ℕ → List ℕ → Bool
begins front text = not (is_none (after_front front text))

abbrev pub section_named : List ℕ → Result Body LineFault
section_named name =
    if is_empty name then Err BadLine
    else (if begins (codes ".text") name then Ok ToText
    else (if begins (codes ".data") name then Ok ToData else Err BadOperand))

abbrev pub section_of : List (List ℕ) → Result Body LineFault
section_of [] = Err BadOperand
section_of (a ∷ args) = section_named a
