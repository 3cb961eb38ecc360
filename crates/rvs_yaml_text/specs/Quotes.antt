-- A text at the first place of a byte.
use Rattle.std.specs.Prelude.{ℕ, true, false, ◌==◌, ◌||◌, List, [], ◌∷◌, Option, option_map, Some}
use Rattle.std.specs.Prelude.{None}
use Rattle.rvs_yaml_text.specs.Bytes.{double_quote_byte, backslash_byte}
use Rattle.rvs_yaml_text.specs.Scalar.{Split, onto, escaped}

-- what is before the first byte that is this one, and what is behind it
abbrev pub at_byte : ℕ → List ℕ → Split
at_byte c [] = None
at_byte c (b ∷ bs) = elim (b == c) [ true ↦ Some ([], bs) | false ↦ onto b (at_byte c bs) ]

-- what is before the first double quote or backslash, and the text from there on
abbrev pub at_stop : List ℕ → Split
at_stop [] = None
at_stop (b ∷ bs) = elim (b == double_quote_byte || b == backslash_byte) [
  | true ↦ Some ([], b ∷ bs)
  | false ↦ onto b (at_stop bs)
]

-- the text that the character behind a backslash stands for
abbrev pub escape : List ℕ → Option (List ℕ)
escape [] = None
escape (b ∷ bs) = option_map (λ c. c ∷ []) (escaped b)
