-- Texts as they are printed in single quotes, and that they are read back as themselves.
use Rattle.std.specs.Prelude.{◌≡◌, ℕ, true, false, ◌==◌, if◌then◌else◌, List, [], ◌∷◌, ◌++◌, Some}
use Rattle.rvs_yaml_text.specs.Bytes.{single_quote_byte, colon_byte}
use Rattle.rvs_yaml_text.specs.Word.{text, key_token, scalar_token}
use Rattle.rvs_yaml_text.specs.Scalar.{starts_with, ends_indicator, only_comment, quoted}
use Rattle.rvs_yaml_text.specs.Scalar.{quoted_name}
use Rattle.rvs_yaml_text.specs.Tokens.{is_punctuation, first_token}
use Rattle.rvs_yaml_text.specs.Text.{content, key_of}

-- each single quote twice
abbrev pub doubled : List ℕ → List ℕ
doubled [] = []
doubled (b ∷ bs) = if b == single_quote_byte then single_quote_byte ∷ single_quote_byte ∷ doubled bs
    else b ∷ doubled bs

abbrev pub in_quotes : List ℕ → List ℕ
in_quotes bytes = single_quote_byte ∷ (doubled bytes ++ single_quote_byte ∷ [])

-- A text in quotes is read back, and what stands behind it is left.
abbrev pub QuotedReadsBack : Type 0
QuotedReadsBack = (bytes behind : List ℕ) → starts_with single_quote_byte behind ≡ false
    → quoted (in_quotes bytes ++ behind) ≡ Some (bytes, behind)

-- so is a key of a line, with a colon and a space or the line's end behind it
abbrev pub KeysReadBack : Type 0
KeysReadBack = (bytes behind : List ℕ) → ends_indicator behind ≡ true
    → key_of (in_quotes bytes ++ colon_byte ∷ behind) ≡ Some (quoted_name bytes, behind)

-- and a scalar by itself, with at most a comment behind it
abbrev pub ScalarsReadBack : Type 0
ScalarsReadBack = (bytes behind : List ℕ) → only_comment false behind ≡ true
    → content (in_quotes bytes ++ behind) ≡ text bytes

-- and a key of a flow collection
abbrev pub FlowKeysReadBack : Type 0
FlowKeysReadBack = (bytes behind : List ℕ) → ends_indicator behind ≡ true
    → first_token (in_quotes bytes ++ colon_byte ∷ behind) ≡ (key_token (quoted_name bytes), behind)

-- and a scalar in a flow collection, with a comma or a bracket behind it
abbrev pub FlowScalarsReadBack : Type 0
FlowScalarsReadBack = (bytes : List ℕ) (b : ℕ) (behind : List ℕ) → is_punctuation b ≡ true
    → first_token (in_quotes bytes ++ b ∷ behind) ≡ (scalar_token (quoted_name bytes), b ∷ behind)

pub record PrintedReadsBack : Type 0 where
  pub texts : QuotedReadsBack
  pub keys : KeysReadBack
  pub scalars : ScalarsReadBack
  pub flow_keys : FlowKeysReadBack
  pub flow_scalars : FlowScalarsReadBack
