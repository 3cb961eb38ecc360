-- Flow collections: `[a, b]` and `{k: v}`, nested.
use Rattle.std.specs.Prelude.{ℕ, Bool, true, false, not, ◌&&◌, ◌||◌, ◌==◌, if◌then◌else◌, List, []}
use Rattle.std.specs.Prelude.{◌∷◌, ◌++◌, Option, Some, None, Ok, Err}
use Rattle.rvs_yaml_text.specs.Bytes.{comma_byte, close_square_byte, close_curly_byte}
use Rattle.rvs_tree.specs.Value.{Value, scalar_value, list_value, map_value, Written, has_key}
use Rattle.rvs_tree.specs.Value.{explicit_keys, is_mergeable}
use Rattle.rvs_yaml.specs.Checks.{Checked, ◌>>=◌, ◌>>◌, check}
use Rattle.rvs_yaml_text.specs.Word.{Key, Bracket, square, curly, Token, opening, closing, comma}
use Rattle.rvs_yaml_text.specs.Word.{colon, scalar_token, key_token, cut_key, colon_scalar}
use Rattle.rvs_yaml_text.specs.Word.{alias_token, late_colon, fault}
use Rattle.rvs_yaml.specs.Anchors.{Anchors, lookup, known_alias}
use Rattle.rvs_yaml.specs.Entry.{written}
use Rattle.rvs_yaml_text.specs.declared.kind.YamlKind.{YamlKind}
use Rattle.rvs_yaml_text.specs.declared.kind.YamlKind.TheVariants.{BadFlow, BadScalar, DuplicateKey}
use Rattle.rvs_yaml_text.specs.declared.kind.YamlKind.TheVariants.{Unsupported, BadMerge}

abbrev pub same_bracket : Bracket → Bracket → Bool
same_bracket square square = true
same_bracket curly curly = true
same_bracket _ _ = false

-- Tokens with the tokens between two brackets put together. The token that ends them is there, if
-- there is one.
pub data Nest : Type 0 where
  none : Nest
  one : Token → Nest → Nest
  group : Bracket → Nest → Option Bracket → Nest → Nest

abbrev pub inside : Nest → Nest
inside none = none
inside (one (closing b) rest) = none
inside (one m rest) = one m (inside rest)
inside (group b inner end rest) = group b inner end (inside rest)

abbrev pub ending : Nest → Option Bracket
ending none = None
ending (one (closing b) rest) = Some b
ending (one m rest) = ending rest
ending (group b inner end rest) = ending rest

abbrev pub behind : Nest → Nest
behind none = none
behind (one (closing b) rest) = rest
behind (one m rest) = behind rest
behind (group b inner end rest) = behind rest

abbrev pub nest : List Token → Nest
nest [] = none
nest (opening b ∷ ms) = group b (inside (nest ms)) (ending (nest ms)) (behind (nest ms))
nest (m ∷ ms) = one m (nest ms)

-- What may come next in an open collection. A comma may stand before its end.
pub data FlowState : Type 0 where
  member : List Value → FlowState
  behind_member : List Value → FlowState
  key_place : List Written → FlowState
  entry_value : List Written → Key → FlowState
  behind_entry : List Written → FlowState

abbrev pub first_place : Bracket → FlowState
first_place square = member []
first_place curly = key_place []

abbrev pub new_key : List Written → Key → Checked (Unit {0})
new_key ws k = check (k.merges || not (has_key k.name (explicit_keys ws))) DuplicateKey

-- a value comes next
abbrev pub with_value : FlowState → Value → Checked FlowState
with_value (member vs) v = Ok (behind_member (vs ++ v ∷ []))
with_value (entry_value ws k) v = Ok (behind_entry (ws ++ written k v ∷ []))
with_value _ v = Err BadFlow

-- a comma comes next
abbrev pub with_comma : FlowState → Checked FlowState
with_comma (behind_member vs) = Ok (member vs)
with_comma (behind_entry ws) = Ok (key_place ws)
with_comma _ = Err BadFlow

-- a key with its colon comes next
abbrev pub with_key : FlowState → Key → Checked FlowState
with_key (key_place ws) k = new_key ws k >> Ok (entry_value ws k)
with_key (member vs) k = Err BadScalar
with_key (entry_value ws l) k = Err BadScalar
with_key _ k = Err BadFlow

-- a quoted scalar with a colon and then more text comes next
abbrev pub with_cut_key : FlowState → Key → Checked FlowState
with_cut_key (key_place ws) k = new_key ws k >> Err BadFlow
with_cut_key (member vs) k = Err BadScalar
with_cut_key (entry_value ws l) k = Err BadScalar
with_cut_key _ k = Err BadFlow

-- a plain scalar that ends in a colon comes next: bad, unless the bracket or comma behind it is
-- worse
abbrev pub with_colon_scalar : FlowState → ℕ → Checked FlowState
with_colon_scalar (member vs) b =
    Err (if b == comma_byte || b == close_square_byte then BadScalar else BadFlow)
with_colon_scalar (entry_value ws k) b =
    Err (if b == comma_byte || b == close_curly_byte then BadScalar else BadFlow)
with_colon_scalar _ b = Err BadFlow

-- an alias comes next; it is no key
abbrev pub with_alias : Anchors → FlowState → List ℕ → Checked FlowState
with_alias known (member vs) [] = Err BadFlow
with_alias known (entry_value ws k) [] = Err BadFlow
with_alias known (member vs) name =
    known_alias (lookup name known) >>= λ v. Ok (behind_member (vs ++ v ∷ []))
with_alias known (entry_value ws k) name =
    known_alias (lookup name known) >>= λ v. Ok (behind_entry (ws ++ written k v ∷ []))
with_alias known (key_place ws) name = Err BadScalar
with_alias known _ name = Err BadFlow

-- Where a scalar could begin, the fault is the scalar's.
abbrev pub with_fault : FlowState → YamlKind → Checked FlowState
with_fault (behind_member vs) kind = Err BadFlow
with_fault (behind_entry ws) kind = Err BadFlow
with_fault _ kind = Err kind

-- a token that is no bracket comes next, where these anchors are known
abbrev pub with_token : Anchors → ℕ → FlowState → Token → Checked FlowState
with_token known line place comma = with_comma place
with_token known line place colon = with_fault place BadScalar
with_token known line place (scalar_token k) = with_value place (scalar_value k.name line)
with_token known line place (key_token k) = with_key place k
with_token known line place (cut_key k) = with_cut_key place k
with_token known line place (colon_scalar b) = with_colon_scalar place b
with_token known line place (alias_token name) = with_alias known place name
with_token known line place (fault kind) = with_fault place kind
with_token known line place late_colon = Err Unsupported
with_token known line place _ = Err BadFlow

-- a collection may begin here
abbrev pub may_open : FlowState → Checked (Unit {0})
may_open (member vs) = Ok tt
may_open (entry_value ws k) = Ok tt
may_open (key_place ws) = Err Unsupported
may_open _ = Err BadFlow

-- the collection may end here
abbrev pub closes : ℕ → FlowState → Checked Value
closes line (member vs) = Ok (list_value line vs)
closes line (behind_member vs) = Ok (list_value line vs)
closes line (key_place ws) = Ok (map_value line ws)
closes line (behind_entry ws) = Ok (map_value line ws)
closes line _ = Err BadFlow

abbrev pub ends_with : Bracket → Option Bracket → Checked (Unit {0})
ends_with b None = Err BadFlow
ends_with b (Some c) = check (same_bracket b c) BadFlow

abbrev pub entry_fits : Written → Bool
entry_fits w = not w.merges || is_mergeable w.value.tree

-- the entry that was read last can be merged, where it is to be
abbrev pub last_fits : List Written → Bool
last_fits [] = true
last_fits (w ∷ []) = entry_fits w
last_fits (w ∷ u ∷ ws) = last_fits (u ∷ ws)

abbrev pub fits : FlowState → Bool
fits (behind_entry ws) = last_fits ws
fits _ = true

-- A collection from this place on, up to its end, and whether all that it merges so far can be
-- merged.
abbrev pub collection : Anchors → ℕ → Bool → FlowState → Nest → Checked (Value × Bool)
collection known line good place none = closes line place >>= λ v. Ok (v, good)
collection known line good place (one m rest) =
    with_token known line place m >>= λ next. collection known line (good && fits next) next rest
collection known line good place (group b inner end rest) = do
  may_open place
  v ← collection known line good (first_place b) inner
  ends_with b end
  next ← with_value place v.0
  collection known line (v.1 && fits next) next rest

-- nothing stands behind a whole collection
abbrev pub only_end : Nest → Checked (Unit {0})
only_end none = Ok tt
only_end (one late_colon rest) = Err Unsupported
only_end _ = Err BadFlow

-- The value of a flow collection that stands by itself, from the tokens behind its first bracket.
-- Its merges are looked at when its text is read.
abbrev pub whole_value : Anchors → ℕ → Bracket → Nest → Checked (Value × Bool)
whole_value known line b n = do
  v ← collection known line true (first_place b) (inside n)
  ends_with b (ending n)
  only_end (behind n)
  Ok v

abbrev pub merged_well : Value × Bool → Checked Value
merged_well v = check v.1 BadMerge >> Ok v.0

abbrev pub flow_value : Anchors → ℕ → Bracket → List Token → Checked Value
flow_value known line b tokens = whole_value known line b (nest tokens) >>= merged_well
