-- The entries of the first list and of the second.
use Rattle.std.specs.Prelude.{ℕ, ◌==◌, ◌&&◌, ◌||◌, nat_le, nat_lt, not, Bool, true, false}
use Rattle.std.specs.Prelude.{if◌then◌else◌, List, [], ◌∷◌, length, Option, Some, None, is_some}
use Rattle.std.specs.Prelude.{is_none, option_map, bytes_eq, codes}
use Rattle.std.specs.Option.{option_and_then, option_or, unwrap_or}
use Rattle.std.specs.List.{list_any, list_all, find, filter_map}
use Rattle.rvs_insn.specs.declared.op.Op.{Op}
use Rattle.rvs_insn.specs.Names.{op_of_name}
use Rattle.rvs_expr_text.specs.declared.lexeme.Word.{Word}
use Rattle.rvs_expr_text.specs.declared.lexeme.Word.TheVariants.{Unknown}
use Rattle.rvs_expr_text.specs.declared.words.Language.TheVariants.{Registers}
use Rattle.rvs_expr_text.specs.Words.{word_of}
use Rattle.rvs_facts.specs.Mnemonics.{is_same}
use Rattle.rvs_text.specs.Bytes.{is_digit, begins_name}
use Rattle.rvs_text.specs.Spaces.{trimmed}
use Rattle.rvs_text.specs.Parts.{around, before_end, behind, parts}
use Rattle.rvs_cross.specs.declared.cross.Field.{Field}
use Rattle.rvs_cross.specs.declared.cross.Field.TheVariants.{Rd, Rs1, Rs2}
use Rattle.rvs_cross.specs.Once.{each_once}

-- the entry that asks for nothing
abbrev pub is_any : List ℕ → Bool
is_any entry = bytes_eq (trimmed entry) (codes "?")

-- ---- mnemonics
-- a letter, a digit, _ or .
abbrev pub in_mnemonic : ℕ → Bool
in_mnemonic c = begins_name c || (is_digit c || c == 46)

abbrev pub is_mnemonic : List ℕ → Bool
is_mnemonic text = nat_lt 0 (length text) && list_all in_mnemonic text

abbrev pub is_name : List ℕ → Bool
is_name part = is_mnemonic (trimmed part)

abbrev pub parenthesised : List ℕ → Option (List ℕ)
parenthesised text = option_and_then (before_end 41) (behind (codes "(") text)

abbrev pub are_names : Option (List ℕ) → Bool
are_names None = false
are_names (Some inside) = list_all is_name (parts 44 inside)

-- `?`, a mnemonic, or mnemonics in parentheses
abbrev pub lists_ops : List ℕ → Bool
lists_ops entry = is_any entry || (is_name entry || are_names (parenthesised (trimmed entry)))

-- the mnemonics of such an entry, with spaces around them
abbrev pub names : List ℕ → List (List ℕ)
names entry = parts 44 (unwrap_or (parenthesised (trimmed entry)) (trimmed entry))

-- the name of a class of instructions
abbrev pub is_class : List ℕ → Bool
is_class part = is_some (behind (codes "rv") (trimmed part))

abbrev pub has_class : List ℕ → Bool
has_class entry = list_any is_class (names entry)

abbrev pub op_named : List ℕ → Option Op
op_named part = op_of_name (trimmed part)

abbrev pub is_unknown : List ℕ → Bool
is_unknown part = is_none (op_named part)

abbrev pub unknown_in : List ℕ → Option (List ℕ)
unknown_in entry = if is_any entry then None else find is_unknown (names entry)

-- the first mnemonic that isn't known, with spaces around it
abbrev pub first_unknown : List (List ℕ) → Option (List ℕ)
first_unknown [] = None
first_unknown (entry ∷ more) = option_or (unknown_in entry) (first_unknown more)

-- the mnemonics of an entry, each once; none where any will do
abbrev pub ops : List ℕ → Option (List Op)
ops entry =
    if is_any entry then None else Some (each_once is_same (filter_map op_named (names entry)))

-- ---- assignments
-- a small letter or _
abbrev pub is_small : ℕ → Bool
is_small c = (nat_le 97 c && nat_le c 122) || c == 95

abbrev pub begins_small : List ℕ → Bool
begins_small [] = false
begins_small (c ∷ cs) = is_small c

abbrev pub is_known : Word → Bool
is_known Unknown = false
is_known _ = true

-- a word of either language of expressions
abbrev pub is_word : List ℕ → Bool
is_word name =
    is_known (word_of Registers [] name)
    || (bytes_eq name (codes "and") || (bytes_eq name (codes "or") || bytes_eq name (codes "not")))

abbrev pub is_variable : List ℕ → Bool
is_variable name =
    begins_small name && (list_all (λ c. is_small c || is_digit c) name && not (is_word name))

abbrev pub field_named : List ℕ → Option Field
field_named text =
    if bytes_eq text (codes "rd") then Some Rd
    else (if bytes_eq text (codes "rs1") then Some Rs1
    else (if bytes_eq text (codes "rs2") then Some Rs2 else None))

abbrev pub assigned : (List ℕ × List ℕ) → Option (List ℕ × Field)
assigned sides =
    if is_variable (trimmed sides.0)
    then option_map (λ f. (trimmed sides.0, f)) (field_named (trimmed sides.1))
    else None

-- the variable and the field of an assignment
abbrev pub assignment : List ℕ → Option (List ℕ × Field)
assignment part = option_and_then assigned (around 61 part)

abbrev pub is_assignment : List ℕ → Bool
is_assignment part = is_some (assignment part)

-- `?`, or assignments
abbrev pub lists_sets : List ℕ → Bool
lists_sets entry = is_any entry || list_all is_assignment (parts 59 entry)
