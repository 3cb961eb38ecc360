-- The pairs that options with their values are.
use Rattle.std.proofs.Common.{◌≡◌, ℕ, Bool, true, false, cond, List, [], ◌∷◌, ◌++◌, length}
use Rattle.std.proofs.Common.{Some, None, refl, sym, ap, ◌∙◌, bytes_eq, append_assoc, append-nil}
use Rattle.std.proofs.Common.{arith}
use Rattle.std.specs.Prelude.{◌&&◌, nat_le, map, filter}
use Rattle.std.specs.List.{list_any, list_all}
use Rattle.rvs_words.specs.Words.{is_positional, pair_in, pairs_of}
use Rattle.rvs_words.specs.Words.{values_of, are_known}
use Rattle.rvs_words.specs.declared.words.Pair.{Pair}
use Rattle.rvs_words.specs.CommandLaws.{Value, option, options, may_stand, AllMayStand, text_of}

-- a name that is told from what is joined to it
pub record IsName (name : List ℕ) : Type 0 where
  pub alone : pair_in name ≡ None
  pub joined : (byte : ℕ) (text : List ℕ)
      → pair_in (name ++ 61 ∷ byte ∷ text) ≡ Some (record { name = name; value = byte ∷ text })
  pub same : bytes_eq name name ≡ true

abbrev pub pair : List ℕ → Value → Pair
pair name value = record { name = name; value = value.text }

abbrev pub pairs : List ℕ → List Value → List Pair
pairs name values = map (pair name) values

pub one-word : (word : List ℕ) (first : Pair) (words : List (List ℕ)) (more : List Pair)
    → pair_in word ≡ Some first
    → pairs_of words ≡ Some more → pairs_of (word ∷ words) ≡ Some (first ∷ more)
one-word word first words more p e = grind arith

one-option : (name : List ℕ) → IsName name
    → (joined : Bool) (text : List ℕ) (words : List (List ℕ)) (more : List Pair)
    → cond joined (nat_le 1 (length text)) (is_positional text) ≡ true → pairs_of words ≡ Some more
    → pairs_of (option name (record { joined = joined; text = text }) ++ words)
    ≡ Some (record { name = name; value = text } ∷ more)
one-option name is joined text words more m e = grind arith

pub option_read : (name : List ℕ) → IsName name
    → (value : Value) (words : List (List ℕ)) (more : List Pair)
    → may_stand value ≡ true → pairs_of words ≡ Some more
    → pairs_of (option name value ++ words) ≡ Some (pair name value ∷ more)
option_read name is value words more m e = one-option name is value.joined value.text words more m e

pub and-left : (a b : Bool) → (a && b) ≡ true → a ≡ true
and-left a b e = grind arith

pub and-right : (a b : Bool) → (a && b) ≡ true → b ≡ true
and-right a b e = grind arith

pub options_read : (name : List ℕ) → IsName name
    → (values : List Value) (words : List (List ℕ)) (more : List Pair) → AllMayStand values
    → pairs_of words ≡ Some more
    → pairs_of (options name values ++ words) ≡ Some (pairs name values ++ more)
options_read name is [] words more m e = e
options_read name is (value ∷ values) words more m e =
    let rest = options_read name is values words more
    (and-right (may_stand value) (list_all may_stand values) m) e in
    ap pairs_of (append_assoc (option name value) (options name values) words)
    ∙ option_read name is value (options name values ++ words) (pairs name values ++ more)
    (and-left (may_stand value) (list_all may_stand values) m) rest

pub options_alone : (name : List ℕ) → IsName name → (values : List Value) → AllMayStand values
    → pairs_of (options name values) ≡ Some (pairs name values ++ [])
options_alone name is values m =
    ap pairs_of (sym (append-nil (options name values))) ∙ options_read name is values [] [] m refl

-- the values of an option, by whether the first pair is its own
abbrev own : List ℕ → List Pair → List Pair
own name ps = filter (λ (p : Pair). bytes_eq p.name name) ps

-- the values of an option among its own pairs, and among those of another
pub values_same : (name : List ℕ) → IsName name → (values : List Value) (more : List Pair)
    → values_of name (pairs name values ++ more) ≡ map text_of values ++ values_of name more
values_same name is [] more = refl
values_same name is (value ∷ values) more = grind (arith, (values_same name is values more))

pub values_other : (name other : List ℕ) → bytes_eq other name ≡ false
    → (values : List Value) (more : List Pair)
    → values_of name (pairs other values ++ more) ≡ values_of name more
values_other name other e [] more = refl
values_other name other e (value ∷ values) more =
    grind (arith, (values_other name other e values more))

pub known_pairs : (names : List (List ℕ)) (name : List ℕ)
    → list_any (λ (known : List ℕ). bytes_eq name known) names ≡ true
    → (values : List Value) (more : List Pair)
    → are_known names (pairs name values ++ more) ≡ are_known names more
known_pairs names name e [] more = refl
known_pairs names name e (value ∷ values) more =
    grind (arith, (known_pairs names name e values more))
