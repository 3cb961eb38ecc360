-- What a line is, in the section that it stands in.
use Rattle.std.specs.Prelude.{ℕ, Bool, true, Option, Some, None, Result, Ok, Err, List}
use Rattle.std.specs.Prelude.{if◌then◌else◌, codes}
use Rattle.std.specs.List.{list_all, list_any}
use Rattle.std.specs.Str.{bytes_eq}
use Rattle.rvs_asm_text.specs.declared.bodies.Body.{Body}
use Rattle.rvs_asm_text.specs.declared.bodies.Body.TheVariants.{Nothing}
use Rattle.rvs_asm_text.specs.declared.bodies.LineFault.{LineFault}
use Rattle.rvs_asm_text.specs.declared.bodies.LineFault.TheVariants.{BadLine, UnknownInstruction}
use Rattle.rvs_asm_text.specs.declared.bodies.Line.{Line}
use Rattle.rvs_asm_text.specs.declared.instructions.Mnemonic.{Mnemonic}
use Rattle.rvs_asm_text.specs.declared.directives.Directive.{Directive}
use Rattle.rvs_asm_text.specs.Text.{Tokens, tokens, before_comment, is_text_byte, first_word}
use Rattle.rvs_asm_text.specs.Text.{after_word, drop_blanks, operands}
use Rattle.rvs_asm_text.specs.Operands.{is_empty, is_symbol}
use Rattle.rvs_asm_text.specs.Instructions.{mnemonic_of, instruction_of}
use Rattle.rvs_asm_text.specs.Directives.{directive_of, directed, section_of}

-- a statement by what its word is; no instruction stands in data
abbrev pub by_word : Bool → List (List ℕ) → Option Directive → Option Mnemonic
    → Result Body LineFault
by_word in_text args (Some d) m = directed d args
by_word in_text args None (Some m) = if in_text then instruction_of m args else Err BadLine
by_word in_text args None None = Err UnknownInstruction

-- no operand beside a comma is empty; of .section the first operand alone is looked at
abbrev pub statement_of : Bool → List ℕ → List (List ℕ) → Result Body LineFault
statement_of in_text word args =
    if is_empty word then Ok Nothing
    else (if bytes_eq word (codes ".section") then section_of args
    else (if list_any is_empty args then Err BadLine
    else by_word in_text args (directive_of word) (mnemonic_of word)))

abbrev pub statement_in : Bool → List ℕ → Result Body LineFault
statement_in in_text text =
    statement_of in_text (first_word text) (operands (drop_blanks (after_word text)))

abbrev pub line_with : Option (List ℕ) → Result Body LineFault → Result Line LineFault
line_with label (Ok body) = Ok (record { label = label; body = body })
line_with label (Err fault) = Err fault

abbrev pub is_label : Option (List ℕ) → Bool
is_label None = true
is_label (Some name) = is_symbol name

abbrev pub tokens_line : Bool → Tokens → Result Line LineFault
tokens_line in_text t =
    if is_label t.label then line_with t.label (statement_of in_text t.word t.args) else Err BadLine

-- a line is read: what it is, or its first fault
unfoldable pub read_line : Bool → List ℕ → Result Line LineFault
read_line in_text line =
    if list_all is_text_byte (before_comment line) then tokens_line in_text (tokens line)
    else Err BadLine
