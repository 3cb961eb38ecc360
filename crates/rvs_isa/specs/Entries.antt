-- The entries of an ISA specification.
use Rattle.std.specs.Prelude.{ℕ, Bool, true, false, ◌&&◌, ◌||◌, if◌then◌else◌, List, [], ◌∷◌}
use Rattle.std.specs.Prelude.{Option, Some, None, Result, Err, codes, nat_le}
use Rattle.std.specs.Option.{option_and_then}
use Rattle.std.specs.Str.{bytes_eq}
use Rattle.rvs_tree.specs.Data.{Data, scalar, sequence, no_items, item, value_at}
use Rattle.rvs_isa.specs.declared.isa_text.Extensions.{Extensions}
use Rattle.rvs_isa.specs.declared.refusal.IsaKind.{IsaKind}
use Rattle.rvs_isa.specs.declared.refusal.IsaKind.TheVariants.{BadIsaText}
use Rattle.rvs_isa.specs.IsaText.{extensions_in}
use Rattle.rvs_isa.specs.Number.{number}
use Rattle.rvs_isa.specs.Refusal.{Path}

-- what a tree has at the end of a path of keys
abbrev pub entry_at : Path → Data → Option Data
entry_at [] d = Some d
entry_at (key ∷ keys) d = option_and_then (entry_at keys) (value_at key d)

-- the member of a list of one
abbrev pub only_member : Data → Option Data
only_member (sequence (item d no_items) line) = Some d
only_member _ = None

abbrev pub number_in : Data → Option ℕ
number_in (scalar text line) = number text
number_in _ = None

abbrev pub isa_in : Data → Result Extensions IsaKind
isa_in (scalar text line) = extensions_in text
isa_in _ = Err BadIsaText

-- a scalar of this text
abbrev pub has_text : List ℕ → Data → Bool
has_text wanted (scalar text line) = bytes_eq text wanted
has_text wanted _ = false

-- the list of the one scalar 32
abbrev pub is_xlen : Data → Bool
is_xlen (sequence (item d no_items) line) = has_text (codes "32") d
is_xlen _ = false

-- the architecture allows at most 34 bits, and the memory map needs 32
abbrev pub within_size : ℕ → Option ℕ
within_size n = if nat_le 32 n && nat_le n 34 then Some n else None

abbrev pub address_size : Data → Option ℕ
address_size d = option_and_then within_size (number_in d)

-- the six spellings of a truth value
abbrev pub truth_in : Data → Option Bool
truth_in d =
    if has_text (codes "true") d || (has_text (codes "True") d || has_text (codes "TRUE") d)
    then Some true
    else (if has_text (codes "false") d
    || (has_text (codes "False") d || has_text (codes "FALSE") d) then Some false else None)
