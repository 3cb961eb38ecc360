-- Scalars, names and comments in the text of a line.
use Rattle.std.specs.Prelude.{ℕ, Bool, true, false, ◌&&◌, ◌||◌, ◌==◌, nat_le, if◌then◌else◌, List}
use Rattle.std.specs.Prelude.{[], ◌∷◌, drop, bytes_eq, Option, Some, None, option_map, codes}
use Rattle.rvs_yaml_text.specs.Bytes.{tab_byte, feed_byte, space_byte, bang_byte, double_quote_byte}
use Rattle.rvs_yaml_text.specs.Bytes.{hash_byte, percent_byte, ampersand_byte, single_quote_byte}
use Rattle.rvs_yaml_text.specs.Bytes.{star_byte, comma_byte, dash_byte, zero_byte, nine_byte}
use Rattle.rvs_yaml_text.specs.Bytes.{colon_byte, greater_byte, question_byte, at_sign_byte}
use Rattle.rvs_yaml_text.specs.Bytes.{upper_a_byte, upper_z_byte, open_square_byte, backslash_byte}
use Rattle.rvs_yaml_text.specs.Bytes.{close_square_byte, underscore_byte, backquote_byte}
use Rattle.rvs_yaml_text.specs.Bytes.{lower_a_byte, lower_n_byte, lower_t_byte, lower_z_byte}
use Rattle.rvs_yaml_text.specs.Bytes.{open_curly_byte, bar_byte, close_curly_byte}
use Rattle.rvs_yaml_text.specs.Word.{Key}
use Rattle.rvs_yaml_text.specs.declared.kind.YamlKind.{YamlKind}
use Rattle.rvs_yaml_text.specs.declared.kind.YamlKind.TheVariants.{BadScalar, Unsupported}

-- only spaces, tabs and a comment, which stands first or after a space
abbrev pub is_blank : Bool → List ℕ → Bool
is_blank spaced [] = true
is_blank spaced (b ∷ bs) = (b == hash_byte && spaced)
    || ((b == space_byte || b == tab_byte) && is_blank (b == space_byte) bs)

-- only spaces and a comment
abbrev pub only_comment : Bool → List ℕ → Bool
only_comment spaced [] = true
only_comment spaced (b ∷ bs) =
    (b == hash_byte && spaced) || (b == space_byte && only_comment true bs)

-- the text, up to a comment
abbrev pub uncommented : Bool → List ℕ → List ℕ
uncommented spaced [] = []
uncommented spaced (b ∷ bs) = if b == hash_byte && spaced then []
    else b ∷ uncommented (b == space_byte) bs

abbrev pub starts_with : ℕ → List ℕ → Bool
starts_with c [] = false
starts_with c (b ∷ bs) = b == c

abbrev pub is_empty : List ℕ → Bool
is_empty [] = true
is_empty _ = false

-- a space or the line's end comes next
abbrev pub ends_indicator : List ℕ → Bool
ends_indicator bytes = is_empty bytes || starts_with space_byte bytes

-- a text at the front, and what is behind it
abbrev pub Split : Type 0
Split = Option (List ℕ × List ℕ)

abbrev pub onto : ℕ → Split → Split
onto b o = option_map (λ p. (b ∷ p.0, p.1)) o

-- the text before the colon that ends a key, and what is behind that
abbrev pub key_split : Bool → List ℕ → Split
key_split spaced [] = None
key_split spaced (b ∷ bs) =
    elim (b == hash_byte && spaced) [
      | true ↦ None
      | false ↦
          elim (b == colon_byte && ends_indicator bs) [
            | true ↦ Some ([], bs)
            | false ↦ onto b (key_split (b == space_byte) bs)
          ]
    ]

-- The text of a scalar in single quotes, behind the first one, and what is behind the last. Two
-- quotes are one.
abbrev mutual
  pub single : List ℕ → Split
  single [] = None
  single (b ∷ bs) =
      elim (b == single_quote_byte) [ true ↦ behind_quote bs | false ↦ onto b (single bs) ]

  pub behind_quote : List ℕ → Split
  behind_quote [] = Some ([], [])
  behind_quote (b ∷ bs) = elim (b == single_quote_byte) [
    | true ↦ onto single_quote_byte (single bs)
    | false ↦ Some ([], b ∷ bs)
  ]

-- what a character behind a backslash stands for
abbrev pub escaped : ℕ → Option ℕ
escaped b = if b == backslash_byte || b == double_quote_byte then Some b
    else if b == lower_n_byte then Some feed_byte else if b == lower_t_byte then Some tab_byte
    else None

-- the text of a scalar in double quotes, behind the first one, and what is behind the last
abbrev mutual
  pub double : List ℕ → Split
  double [] = None
  double (b ∷ bs) = elim (b == double_quote_byte) [
    | true ↦ Some ([], bs)
    | false ↦ elim (b == backslash_byte) [ true ↦ behind_backslash bs | false ↦ onto b (double bs) ]
  ]

  pub behind_backslash : List ℕ → Split
  behind_backslash [] = None
  behind_backslash (b ∷ bs) = elim (escaped b) [ None ↦ None | Some c ↦ onto c (double bs) ]

abbrev pub starts_quoted : List ℕ → Bool
starts_quoted bytes = starts_with single_quote_byte bytes || starts_with double_quote_byte bytes

-- the text of a quoted scalar, and what is behind it
abbrev pub quoted : List ℕ → Split
quoted bytes = elim (starts_with single_quote_byte bytes) [
  | true ↦ single (drop 1 bytes)
  | false ↦ double (drop 1 bytes)
]

-- letters, digits, `_` and `-`
abbrev pub is_name_byte : ℕ → Bool
is_name_byte b = ((nat_le zero_byte b && nat_le b nine_byte)
    || (nat_le upper_a_byte b && nat_le b upper_z_byte))
    || ((nat_le lower_a_byte b && nat_le b lower_z_byte)
    || (b == underscore_byte || b == dash_byte))

abbrev pub name_split : List ℕ → List ℕ × List ℕ
name_split [] = ([], [])
name_split (b ∷ bs) = elim (is_name_byte b) [
  | true ↦ (b ∷ (name_split bs).0, (name_split bs).1)
  | false ↦ ([], b ∷ bs)
]

-- `! | > %`
abbrev pub is_unsupported_start : ℕ → Bool
is_unsupported_start b =
    b == bang_byte || (b == bar_byte || (b == greater_byte || b == percent_byte))

-- `& * ' " [ { , ] } @` and the backquote, and `#`
abbrev pub is_reserved_start : ℕ → Bool
is_reserved_start b = ((b == ampersand_byte || b == star_byte) || (b == single_quote_byte
    || b == double_quote_byte)) || (((b == open_square_byte || b == open_curly_byte)
    || (b == comma_byte || b == close_square_byte)) || ((b == close_curly_byte || b == at_sign_byte)
    || (b == backquote_byte || b == hash_byte)))

-- `? - :`
abbrev pub is_indicator_byte : ℕ → Bool
is_indicator_byte b = b == question_byte || (b == dash_byte || b == colon_byte)

-- why a plain scalar can't begin so, if it can't
abbrev pub start_fault : List ℕ → Option YamlKind
start_fault [] = None
start_fault (b ∷ bs) =
    if is_unsupported_start b then Some Unsupported
    else if is_reserved_start b then Some BadScalar
    else if b == question_byte && starts_with space_byte bs then Some Unsupported
    else if is_indicator_byte b && ends_indicator bs then Some BadScalar
    else None

abbrev pub key_name : List ℕ → Key
key_name name = record { name = name; merges = bytes_eq name (codes "<<") }

-- a quoted key merges nothing
abbrev pub quoted_name : List ℕ → Key
quoted_name name = record { name = name; merges = false }
