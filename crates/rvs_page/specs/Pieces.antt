-- The pieces that a page is made of.
use Rattle.std.specs.Prelude.{ℕ, List, decimal}
use Rattle.std.specs.List.{flat_map}
use Rattle.rvs_base.specs.Number.{hex_word_of}
use Rattle.rvs_page.specs.Escape.{escaped}
use Rattle.rvs_page.specs.declared.pieces.Piece.{Piece}
use Rattle.rvs_page.specs.declared.pieces.Piece.TheVariants.{Html, Text, Number, Word}

-- a piece of the page's own text, what a reader is to read as it is, a number, or a word of 32 bits
unfoldable pub piece_text : Piece → List ℕ
piece_text (Html bytes) = bytes
piece_text (Text bytes) = escaped bytes
piece_text (Number n) = decimal n
piece_text (Word w) = hex_word_of w

unfoldable pub told : List Piece → List ℕ
told pieces = flat_map piece_text pieces
