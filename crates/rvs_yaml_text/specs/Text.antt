-- The lines of a text, and the words of a line.
use Rattle.std.specs.Prelude.{ℕ, suc, ◌-◌, Bool, true, false, not, ◌&&◌, ◌||◌, ◌==◌, if◌then◌else◌}
use Rattle.std.specs.Prelude.{List, [], ◌∷◌, ◌++◌, map, take, drop, length, slice_index, bytes_eq}
use Rattle.std.specs.Prelude.{Option, Some, None}
use Rattle.rvs_text.specs.Spaces.{without_end, without_spaces}
use Rattle.rvs_yaml_text.specs.Bytes.{tab_byte, feed_byte, return_byte, space_byte, hash_byte}
use Rattle.rvs_yaml_text.specs.Bytes.{ampersand_byte, star_byte, dash_byte, dot_byte, colon_byte}
use Rattle.rvs_yaml_text.specs.Bytes.{open_square_byte, open_curly_byte}
use Rattle.std.specs.Str.{is_utf8}
use Rattle.rvs_yaml_text.specs.Word.{Key, square, curly, Content, nothing, text, alias, flow}
use Rattle.rvs_yaml_text.specs.Word.{faulty, Name, Shape, dash, key, leaf, refused, Word}
use Rattle.rvs_yaml_text.specs.Scalar.{Split, is_blank, only_comment, ends_indicator, starts_with}
use Rattle.rvs_yaml_text.specs.Scalar.{is_empty, uncommented, key_split}
use Rattle.rvs_yaml_text.specs.Scalar.{starts_quoted, quoted, name_split, start_fault, key_name}
use Rattle.rvs_yaml_text.specs.Scalar.{quoted_name}
use Rattle.rvs_yaml_text.specs.Tokens.{tokens_of}
use Rattle.rvs_yaml_text.specs.declared.kind.YamlKind.{YamlKind}
use Rattle.rvs_yaml_text.specs.declared.kind.YamlKind.TheVariants.{NotUtf8, TabIndent, BadScalar}
use Rattle.rvs_yaml_text.specs.declared.kind.YamlKind.TheVariants.{Unsupported}

-- the lines of a text, cut at line feeds
abbrev pub onto_first : ℕ → List (List ℕ) → List (List ℕ)
onto_first b [] = (b ∷ []) ∷ []
onto_first b (l ∷ ls) = (b ∷ l) ∷ ls

abbrev pub cut : List ℕ → List (List ℕ)
cut [] = [] ∷ []
cut (b ∷ bs) = if b == feed_byte then [] ∷ cut bs else onto_first b (cut bs)

-- the lines behind a line feed, where there is one
abbrev pub cut_behind : Option (List ℕ) → List (List ℕ)
cut_behind None = []
cut_behind (Some bytes) = cut bytes

-- a carriage return at its end is no part of a line
abbrev pub without_return : List ℕ → List ℕ
without_return bytes =
    if slice_index bytes (length bytes - 1) == return_byte then take (length bytes - 1) bytes
    else bytes

abbrev pub lines_of : List ℕ → List (List ℕ)
lines_of bytes = map without_return (cut bytes)

-- A plain scalar by itself ends at the line's end or before a comment, and has no end of a key in
-- it.
abbrev pub plain_ended : List ℕ → Split → Content
plain_ended bytes None = text (without_end (uncommented false bytes))
plain_ended bytes (Some split) = faulty BadScalar

abbrev pub plain : Option YamlKind → List ℕ → Content
plain None bytes = plain_ended bytes (key_split false bytes)
plain (Some kind) bytes = faulty kind

-- nothing but a comment stands behind a quoted scalar
abbrev pub quoted_ended : Split → Content
quoted_ended None = faulty BadScalar
quoted_ended (Some p) = if only_comment false p.1 then text p.0 else faulty BadScalar

abbrev pub alias_ended : List ℕ × List ℕ → Content
alias_ended p = if is_empty p.0 then faulty BadScalar else alias p.0 (only_comment false p.1)

-- a scalar, an alias or a flow collection, from its first character on
abbrev pub content : List ℕ → Content
content bytes =
    elim (starts_quoted bytes) [
      | true ↦ quoted_ended (quoted bytes)
      | false ↦
          elim (starts_with star_byte bytes) [
            | true ↦ alias_ended (name_split (drop 1 bytes))
            | false ↦
                elim (starts_with open_square_byte bytes) [
                  | true ↦ flow square (tokens_of (drop 1 bytes))
                  | false ↦
                      elim (starts_with open_curly_byte bytes) [
                        | true ↦ flow curly (tokens_of (drop 1 bytes))
                        | false ↦ plain (start_fault bytes) bytes
                      ]
                ]
          ]
    ]

-- the content of a text from its first character on, if it is more than a comment
abbrev pub content_or_comment : List ℕ → Content
content_or_comment bytes =
    elim (is_empty bytes || starts_with hash_byte bytes) [ true ↦ nothing | false ↦ content bytes ]

-- The name behind a `&`, and what is behind it. There is a name, and a space or the line's end
-- behind it.
abbrev pub good_anchor : List ℕ × List ℕ → Split
good_anchor p = if not (is_empty p.0) && ends_indicator p.1 then Some p else None

abbrev pub anchor_split : List ℕ → Split
anchor_split bytes = good_anchor (name_split bytes)

abbrev pub anchored : Split → Name × Content
anchored None = (None, faulty BadScalar)
anchored (Some p) = (Some p.0, content_or_comment (without_spaces p.1))

-- what is behind a key and its colon: an anchor, where there is one, and the inline part
abbrev pub inline_part : List ℕ → Name × Content
inline_part bytes = elim (starts_with ampersand_byte bytes) [
  | true ↦ anchored (anchor_split (drop 1 bytes))
  | false ↦ (None, content_or_comment bytes)
]

-- a key and what is behind its colon
abbrev pub quoted_key : Split → Option (Key × List ℕ)
quoted_key None = None
quoted_key (Some p) =
    if starts_with colon_byte (without_spaces p.1) && ends_indicator (drop 1 (without_spaces p.1))
    then Some (quoted_name p.0, drop 1 (without_spaces p.1)) else None

abbrev pub plain_key : Option YamlKind → Split → Option (Key × List ℕ)
plain_key None (Some p) = Some (key_name (without_end p.0), p.1)
plain_key _ _ = None

abbrev pub key_of : List ℕ → Option (Key × List ℕ)
key_of bytes = elim (starts_quoted bytes) [
  | true ↦ quoted_key (quoted bytes)
  | false ↦ plain_key (start_fault bytes) (key_split false bytes)
]

-- an entry of a map, or a leaf
abbrev pub shape_from : List ℕ → Option (Key × List ℕ) → Shape
shape_from bytes None = leaf (content bytes)
shape_from bytes (Some k) =
    key k.0 (inline_part (without_spaces k.1)).0 (inline_part (without_spaces k.1)).1

abbrev pub word_at : ℕ → ℕ → Shape → Word
word_at line column shape = record { line = line; column = column; shape = shape }

-- The last word of a line, which stands at this column, if there is more than a comment. A tab in
-- the indentation refuses the line, and behind a dash the item.
abbrev pub last_words : ℕ → Bool → ℕ → List ℕ → List Word
last_words line behind_dash column bytes =
    elim (is_blank true bytes) [
      | true ↦ []
      | false ↦
          elim (starts_with tab_byte bytes) [
            | true ↦ word_at line (if behind_dash then column else 0) (refused TabIndent) ∷ []
            | false ↦ word_at line column (shape_from bytes (key_of bytes)) ∷ []
          ]
    ]

-- the anchor of an item, where there is a good one
abbrev pub name_of_split : Split → Name
name_of_split None = None
name_of_split (Some p) = Some p.0

abbrev pub item_name : List ℕ → Name
item_name bytes = elim (starts_with ampersand_byte (without_spaces bytes)) [
  | true ↦ name_of_split (anchor_split (drop 1 (without_spaces bytes)))
  | false ↦ None
]

-- a colon stands behind a quoted scalar, with spaces between at most
abbrev pub colon_behind : Split → Bool
colon_behind None = false
colon_behind (Some p) = starts_with colon_byte (without_spaces p.1)

-- a colon ends the plain scalar as a key
abbrev pub has_plain_key : Option YamlKind → Split → Bool
has_plain_key None (Some p) = true
has_plain_key _ _ = false

-- a scalar with a colon behind it, which an item with an anchor isn't
abbrev pub begins_entry : List ℕ → Bool
begins_entry bytes = elim (starts_quoted bytes) [
  | true ↦ colon_behind (quoted bytes)
  | false ↦ has_plain_key (start_fault bytes) (key_split false bytes)
]

-- Behind the anchor of an item stands no entry of a map.
abbrev pub unkeyed : Bool → Content → Content
unkeyed true c = faulty Unsupported
unkeyed false c = c

abbrev pub named_item : List ℕ → Option Shape
named_item bytes = elim (is_empty bytes || starts_with hash_byte bytes) [
  | true ↦ None
  | false ↦ Some (leaf (unkeyed (begins_entry bytes) (content bytes)))
]

-- what stands at the anchor of an item, if there is more than the anchor
abbrev pub anchored_shape : Split → Option Shape
anchored_shape None = Some (leaf (faulty BadScalar))
anchored_shape (Some p) = named_item (without_spaces p.1)

abbrev pub word_of : ℕ → ℕ → Option Shape → List Word
word_of line column None = []
word_of line column (Some shape) = word_at line column shape ∷ []

-- The words of the rest of a line, from this column. A dash that stands for an item leaves a space
-- in its place.
abbrev pub words_at : ℕ → Bool → ℕ → List ℕ → List Word
words_at line behind_dash column [] = []
words_at line behind_dash column (b ∷ bs) =
    elim (b == space_byte) [
      | true ↦ words_at line behind_dash (suc column) bs
      | false ↦
          elim (b == dash_byte && ends_indicator bs) [
            | true ↦ word_at line column (dash (item_name bs)) ∷ words_at line true (suc column) bs
            | false ↦
                elim (behind_dash && b == ampersand_byte) [
                  | true ↦ word_of line column (anchored_shape (anchor_split bs))
                  | false ↦
                      last_words line behind_dash column (b ∷ bs)
                ]
          ]
    ]

-- three dashes or dots, and at most a comment behind them
abbrev pub is_mark : ℕ → List ℕ → Bool
is_mark byte bytes =
    bytes_eq (take 3 bytes) (byte ∷ byte ∷ byte ∷ []) && only_comment false (drop 3 bytes)

-- The words of a line. Three dashes may stand as the first line that isn't blank.
abbrev pub line_words : ℕ → Bool → List ℕ → List Word
line_words line started bytes =
    elim (is_utf8 bytes) [
      | false ↦ word_at line 0 (refused NotUtf8) ∷ []
      | true ↦
          elim (is_mark dash_byte bytes) [
            | true ↦ (if started then word_at line 0 (refused Unsupported) ∷ [] else [])
            | false ↦
                elim (is_mark dot_byte bytes) [
                  | true ↦ word_at line 0 (refused Unsupported) ∷ []
                  | false ↦ words_at line false 0 bytes
                ]
          ]
    ]

-- the words of the lines, from this line on
abbrev pub words_of : ℕ → Bool → List (List ℕ) → List Word
words_of line started [] = []
words_of line started (l ∷ ls) =
    line_words line started l ++ words_of (suc line) (started || not (is_blank true l)) ls
