-- Parts of the words of a line.
use Rattle.std.specs.Prelude.{ℕ, Bool, true, false, ◌&&◌, List, [], ◌∷◌, drop, Option, Some, None}
use Rattle.rvs_yaml_text.specs.Bytes.{ampersand_byte, dash_byte}
use Rattle.rvs_yaml_text.specs.Word.{Word}
use Rattle.rvs_yaml_text.specs.Scalar.{starts_with, ends_indicator}
use Rattle.rvs_yaml_text.specs.Text.{word_of, anchored_shape, anchor_split, last_words}

-- the text behind the dash of an item
abbrev pub behind_dash : List ℕ → Option (List ℕ)
behind_dash bytes = elim (starts_with dash_byte bytes && ends_indicator (drop 1 bytes)) [
  | true ↦ Some (drop 1 bytes)
  | false ↦ None
]

abbrev pub words_in : Option Word → List Word
words_in None = []
words_in (Some w) = w ∷ []

-- the words of a text that begins with no space and no dash of an item
abbrev pub rest_words : ℕ → Bool → ℕ → List ℕ → List Word
rest_words line item column bytes =
    elim (item && starts_with ampersand_byte bytes) [
      | true ↦ word_of line column (anchored_shape (anchor_split (drop 1 bytes)))
      | false ↦ last_words line item column bytes
    ]
