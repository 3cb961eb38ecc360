-- Symbols, and the parts of an operand.
use Rattle.std.specs.Prelude.{ℕ, ◌==◌, ◌&&◌, ◌||◌, nat_le, Bool, true, false, Option, Some, None}
use Rattle.std.specs.Prelude.{List, [], ◌∷◌, if◌then◌else◌, option_and_then, codes}
use Rattle.std.specs.List.{list_all}
use Rattle.std.specs.Str.{bytes_eq}
use Rattle.rvs_base.specs.Lines.{before, after}
use Rattle.rvs_asm_text.specs.Text.{trim}

abbrev pub is_letter : ℕ → Bool
is_letter c = (nat_le 65 c && nat_le c 90) || (nat_le 97 c && nat_le c 122)

-- a letter, _ or .
abbrev pub begins_symbol : ℕ → Bool
begins_symbol c = is_letter c || c == 95 || c == 46

-- also a digit or $
abbrev pub continues_symbol : ℕ → Bool
continues_symbol c = begins_symbol c || (nat_le 48 c && nat_le c 57) || c == 36

abbrev pub is_symbol : List ℕ → Bool
is_symbol [] = false
is_symbol (c ∷ cs) = begins_symbol c && list_all continues_symbol cs

abbrev pub symbol_of : List ℕ → Option (List ℕ)
symbol_of text = if is_symbol text then Some text else None

-- an operand with brackets: what stands before them, in them, and after them, each without the
-- blanks round it
pub record Brackets : Type 0 where
  pub head : List ℕ
  pub inside : List ℕ
  pub rest : List ℕ

abbrev pub closed : List ℕ → List ℕ → Option (List ℕ) → Option Brackets
closed head inner None = None
closed head inner (Some rest) =
    Some (record { head = trim head; inside = trim (before 41 inner); rest = trim rest })

abbrev pub opened : List ℕ → Option (List ℕ) → Option Brackets
opened head None = None
opened head (Some inner) = closed head inner (after 41 inner)

abbrev pub brackets_of : List ℕ → Option Brackets
brackets_of text = opened (before 40 text) (after 40 text)

abbrev pub is_empty : List ℕ → Bool
is_empty [] = true
is_empty (c ∷ cs) = false

-- the symbol s of %hi(s) or %lo(s)
abbrev pub part_in : List ℕ → Brackets → Option (List ℕ)
part_in sign b = if bytes_eq b.head sign && is_empty b.rest then symbol_of b.inside else None

abbrev pub high_in : List ℕ → Option (List ℕ)
high_in text = option_and_then (part_in (codes "%hi")) (brackets_of text)

abbrev pub low_in : List ℕ → Option (List ℕ)
low_in text = option_and_then (part_in (codes "%lo")) (brackets_of text)

-- ---- how many operands there are
abbrev pub only : List (List ℕ) → Option (List ℕ)
only (a ∷ []) = Some a
only _ = None

abbrev pub pair : List (List ℕ) → Option (List ℕ × List ℕ)
pair (a ∷ b ∷ []) = Some (a, b)
pair _ = None

abbrev pub triple : List (List ℕ) → Option (List ℕ × List ℕ × List ℕ)
triple (a ∷ b ∷ c ∷ []) = Some (a, b, c)
triple _ = None
