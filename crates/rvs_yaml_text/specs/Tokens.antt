-- The tokens of a flow collection, as they stand in its text.
use Rattle.std.specs.Prelude.{ℕ, zero, suc, ◌-◌, Bool, true, false, ◌&&◌, ◌||◌, ◌==◌, if◌then◌else◌}
use Rattle.std.specs.Prelude.{List, [], ◌∷◌, drop, length, slice_index, Option, Some, None}
use Rattle.rvs_text.specs.Spaces.{without_end, without_spaces}
use Rattle.rvs_yaml_text.specs.Bytes.{space_byte, hash_byte, ampersand_byte, star_byte, comma_byte}
use Rattle.rvs_yaml_text.specs.Bytes.{colon_byte, open_square_byte, close_square_byte}
use Rattle.rvs_yaml_text.specs.Bytes.{open_curly_byte, close_curly_byte}
use Rattle.rvs_yaml_text.specs.Word.{square, curly, Token, opening, closing, comma, colon}
use Rattle.rvs_yaml_text.specs.Word.{scalar_token, key_token, cut_key, colon_scalar, alias_token}
use Rattle.rvs_yaml_text.specs.Word.{late_colon, fault}
use Rattle.rvs_yaml_text.specs.Scalar.{Split, starts_with, is_empty, ends_indicator}
use Rattle.rvs_yaml_text.specs.Scalar.{starts_quoted, quoted, name_split}
use Rattle.rvs_yaml_text.specs.Scalar.{start_fault, key_name, quoted_name}
use Rattle.rvs_yaml_text.specs.declared.kind.YamlKind.{YamlKind}
use Rattle.rvs_yaml_text.specs.declared.kind.YamlKind.TheVariants.{BadScalar, Unsupported}

abbrev pub punctuation : ℕ → Option Token
punctuation b =
    if b == comma_byte then Some comma else if b == open_square_byte then Some (opening square)
    else if b == close_square_byte then Some (closing square)
    else if b == open_curly_byte then Some (opening curly)
    else if b == close_curly_byte then Some (closing curly) else None

abbrev pub is_punctuation : ℕ → Bool
is_punctuation b = b == comma_byte || (b == open_square_byte
    || (b == close_square_byte || (b == open_curly_byte || b == close_curly_byte)))

-- A token, and the text behind it. Behind a fault nothing is read.
abbrev pub FirstToken : Type 0
FirstToken = Token × List ℕ

-- A plain scalar in a flow collection ends before `, [ ] { }`, before the colon that ends a key and
-- before a comment.
abbrev pub ends_plain : Bool → ℕ → List ℕ → Bool
ends_plain spaced b bs =
    (b == hash_byte && spaced) || ((b == colon_byte && ends_indicator bs) || is_punctuation b)

abbrev pub before : ℕ → List ℕ × List ℕ → List ℕ × List ℕ
before b p = (b ∷ p.0, p.1)

abbrev pub plain_split : Bool → List ℕ → List ℕ × List ℕ
plain_split spaced [] = ([], [])
plain_split spaced (b ∷ bs) = elim (ends_plain spaced b bs) [
  | true ↦ ([], b ∷ bs)
  | false ↦ before b (plain_split (b == space_byte) bs)
]

abbrev pub ends_in_colon : List ℕ → Bool
ends_in_colon bytes = slice_index bytes (length bytes - 1) == colon_byte

abbrev pub first_byte : List ℕ → ℕ
first_byte bytes = slice_index bytes 0

-- the token of a plain scalar
abbrev pub plain_token : List ℕ × List ℕ → FirstToken
plain_token p =
    elim (starts_with colon_byte p.1) [
      | true ↦ (key_token (key_name (without_end p.0)), drop 1 p.1)
      | false ↦
          elim (ends_in_colon (without_end p.0)) [
            | true ↦ (colon_scalar (first_byte p.1), p.1)
            | false ↦ (scalar_token (key_name (without_end p.0)), p.1)
          ]
    ]

-- Behind a quoted scalar stand a colon, a bracket, a comma or a comment, or nothing. The text
-- behind it is without the spaces at its front.
abbrev pub quoted_token_before : List ℕ → List ℕ → List ℕ → FirstToken
quoted_token_before name behind next =
    elim (is_empty next) [
      | true ↦ (scalar_token (quoted_name name), behind)
      | false ↦
          elim (starts_with colon_byte next) [
            | true ↦ (
              if ends_indicator (drop 1 next) then key_token
                  (quoted_name name) else cut_key (quoted_name name),
              drop 1 next,
            )
            | false ↦
                elim (is_punctuation (first_byte next)
                || (first_byte next == hash_byte && starts_with space_byte behind)) [
                  | true ↦ (scalar_token (quoted_name name), behind)
                  | false ↦ (fault BadScalar, [])
                ]
          ]
    ]

abbrev pub quoted_token : Split → FirstToken
quoted_token None = (fault BadScalar, [])
quoted_token (Some p) = quoted_token_before p.0 p.1 (without_spaces p.1)

abbrev pub alias_word : List ℕ × List ℕ → FirstToken
alias_word p = (alias_token p.0, p.1)

-- the plain scalar at the front of a text, whose first character is good
abbrev pub plain_parts : List ℕ → List ℕ × List ℕ
plain_parts [] = ([], [])
plain_parts (b ∷ bs) = before b (plain_split false bs)

abbrev pub plain_or_fault : Option YamlKind → List ℕ → FirstToken
plain_or_fault None bytes = plain_token (plain_parts bytes)
plain_or_fault (Some kind) bytes = (fault kind, [])

-- the token of a word from its first character on, which is no bracket, comma or colon by itself
abbrev pub word_token : List ℕ → FirstToken
word_token bytes =
    elim (starts_quoted bytes) [
      | true ↦ quoted_token (quoted bytes)
      | false ↦
          elim (starts_with star_byte bytes) [
            | true ↦ alias_word (name_split (drop 1 bytes))
            | false ↦
                elim (starts_with ampersand_byte bytes) [
                  | true ↦ (fault Unsupported, [])
                  | false ↦ plain_or_fault (start_fault bytes) bytes
                ]
          ]
    ]

abbrev pub punctuation_or_word : Option Token → List ℕ → FirstToken
punctuation_or_word (Some m) bytes = (m, drop 1 bytes)
punctuation_or_word None bytes =
    elim (first_byte bytes == colon_byte && ends_indicator (drop 1 bytes)) [
      | true ↦ (colon, drop 1 bytes)
      | false ↦ word_token bytes
    ]

-- the first token of a text that isn't empty, and the text behind it
abbrev pub first_token : List ℕ → FirstToken
first_token bytes = punctuation_or_word (punctuation (first_byte bytes)) bytes

abbrev pub closes : Token → Bool
closes (closing b) = true
closes _ = false

-- The first token of a text, where `closed` says that a closing bracket stands before it, with
-- spaces between at most. Behind a late colon nothing is read.
abbrev pub next_token : Bool → List ℕ → FirstToken
next_token closed bytes = elim (closed && starts_with colon_byte bytes) [
  | true ↦ (late_colon, [])
  | false ↦ first_token bytes
]

-- The tokens of a text with at most this many bytes, up to a comment. `closed` says that a closing
-- bracket was read last, and `spaced` that a space stands before the text.
abbrev pub tokens : ℕ → Bool → Bool → List ℕ → List Token
tokens zero closed spaced bytes = []
tokens (suc n) closed spaced [] = []
tokens (suc n) closed spaced (b ∷ bs) =
    elim (b == space_byte) [
      | true ↦ tokens n closed true bs
      | false ↦
          elim (b == hash_byte && spaced) [
            | true ↦ []
            | false ↦ (next_token closed (b ∷ bs)).0 ∷ tokens n
                (closes (next_token closed (b ∷ bs)).0) false (next_token closed (b ∷ bs)).1
          ]
    ]

abbrev pub tokens_of : List ℕ → List Token
tokens_of bytes = tokens (length bytes) false false bytes
