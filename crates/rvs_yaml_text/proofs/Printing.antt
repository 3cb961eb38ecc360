-- A text in single quotes is read back as itself.
use Rattle.std.proofs.Common.{◌≡◌, ℕ, Bool, true, false, List, [], ◌∷◌, ◌++◌, Option, Some, None}
use Rattle.std.proofs.Common.{refl, ap, ◌∙◌, append_assoc, arith}
use Rattle.std.specs.Prelude.{◌==◌, ◌||◌, if◌then◌else◌}
use Rattle.std.proofs.lemmas.Bool.Decides.{nat_tests}
use Rattle.rvs_yaml_text.specs.Word.{Key, Content, text, key_token, cut_key, scalar_token}
use Rattle.rvs_yaml_text.specs.Scalar.{starts_with, only_comment}
use Rattle.rvs_yaml_text.specs.Scalar.{single, quoted_name}
use Rattle.rvs_yaml_text.specs.Tokens.{FirstToken, is_punctuation}
use Rattle.rvs_yaml_text.specs.Tokens.{quoted_token_before}
use Rattle.rvs_yaml_text.specs.Printed.{doubled, QuotedReadsBack, KeysReadBack, ScalarsReadBack}
use Rattle.rvs_yaml_text.specs.Printed.{FlowKeysReadBack, FlowScalarsReadBack, PrintedReadsBack}
use Rattle.rvs_yaml_text.proofs.Quoting.{quote-end}

abbrev closed : List ℕ → List ℕ → List ℕ
closed bytes behind = doubled bytes ++ 39 ∷ behind

single-back : (bytes behind : List ℕ) → starts_with 39 behind ≡ false
    → single (closed bytes behind) ≡ Some (bytes, behind)
single-back [] behind q = quote-end behind q
single-back (b ∷ bs) behind q = grind (arith, nat_tests, (single-back bs behind q))

joined : (bytes behind : List ℕ) → (doubled bytes ++ 39 ∷ []) ++ behind ≡ closed bytes behind
joined bytes behind = append_assoc (doubled bytes) (39 ∷ []) behind

quoted-back : QuotedReadsBack
quoted-back bytes behind q = ap single (joined bytes behind) ∙ single-back bytes behind q

abbrev key_if : Bool → List ℕ → List ℕ → Option (Key × List ℕ)
key_if t bytes behind = if t then Some (quoted_name bytes, behind) else None

key-by : (t : Bool) (bytes behind : List ℕ) → t ≡ true
    → key_if t bytes behind ≡ Some (quoted_name bytes, behind)
key-by t bytes behind e = grind arith

keys-back : KeysReadBack
keys-back bytes behind e = simp (quoted-back, key-by)

no-quote : (behind : List ℕ) → only_comment false behind ≡ true → starts_with 39 behind ≡ false
no-quote behind h = grind arith

ended-by : (t : Bool) (bytes : List ℕ) (bad : Content) → t ≡ true
    → (if t then text bytes else bad) ≡ text bytes
ended-by t bytes bad e = grind arith

scalars-back : ScalarsReadBack
scalars-back bytes behind e = simp (quoted-back, no-quote, ended-by)

token-by : (t : Bool) (k : Key) (behind : List ℕ) → t ≡ true
    → (let p : FirstToken = (if t then key_token k else cut_key k, behind) in p)
    ≡ (key_token k, behind)
token-by t k behind e = grind arith

flow-keys-back : FlowKeysReadBack
flow-keys-back bytes behind e = simp (quoted-back, token-by)

other : (b c : ℕ) → is_punctuation b ≡ true
    → (c == 44 || (c == 91 || (c == 93 || (c == 123 || c == 125)))) ≡ false → (b == c) ≡ false
other b c h n = grind arith

punctuated : (name : List ℕ) (b : ℕ) (behind : List ℕ) → is_punctuation b ≡ true → (b == 58) ≡ false
    → quoted_token_before name (b ∷ behind) (b ∷ behind)
    ≡ (scalar_token (quoted_name name), b ∷ behind)
punctuated name b behind p c = rw (c, quoted_token_before) (rw (p, quoted_token_before) refl)

flow-scalars-back : FlowScalarsReadBack
flow-scalars-back bytes b behind p = simp (quoted-back, other, punctuated)

pub printed-reads-back : PrintedReadsBack
printed-reads-back =
    grind (arith, quoted-back, keys-back, scalars-back, flow-keys-back, flow-scalars-back)
