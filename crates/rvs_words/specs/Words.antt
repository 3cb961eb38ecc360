-- The words of a command line.
use Rattle.std.specs.Prelude.{ℕ, Bool, false, not, ◌==◌, if◌then◌else◌, List, [], ◌∷◌, map}
use Rattle.std.specs.Prelude.{filter, string_bytes, bytes_eq, codes, Option, Some, None, option_map}
use Rattle.std.specs.Prelude.{option_and_then, String}
use Rattle.std.specs.List.{list_any, list_all, before_first, after_first}
use Rattle.std.specs.declared.alloc.Global.{Global}
use Rattle.rvs_words.specs.declared.words.Pair.{Pair}

-- the words as bytes
abbrev pub texts : List (String Global) → List (List ℕ)
texts words = map string_bytes words

-- a word that stands for itself: it isn't empty, and doesn't begin with a dash
abbrev pub is_positional : List ℕ → Bool
is_positional [] = false
is_positional (byte ∷ word) = not (byte == 45)

abbrev pub is_equals_sign : ℕ → Bool
is_equals_sign byte = byte == 61

abbrev pub pair_of : List ℕ → List ℕ → Option Pair
pair_of name [] = None
pair_of name (byte ∷ value) = Some (record { name = name; value = byte ∷ value })

-- the option that has no value
abbrev pub is_flag : List ℕ → Bool
is_flag word = bytes_eq word (codes "--progress")

-- an option in one word: its name and its value, between which `=` stands and of which the latter
-- isn't empty, or the option that has none
abbrev pub pair_in : List ℕ → Option Pair
pair_in word = if is_flag word then Some (record { name = word; value = [] })
    else pair_of (before_first is_equals_sign word) (after_first is_equals_sign word)

abbrev pub with_pair : Pair → Option (List Pair) → Option (List Pair)
with_pair pair more = option_map (λ (pairs : List Pair). pair ∷ pairs) more

-- an option and its value in two words, of which the second stands for itself
abbrev pub with_two_words : List ℕ → List ℕ → Option (List Pair) → Option (List Pair)
with_two_words name value more =
    if is_positional value then with_pair (record { name = name; value = value }) more else None

-- words that are options, each with its value in the same word or in the next, or none where one
-- lacks its value
abbrev pub pairs_of : List (List ℕ) → Option (List Pair)
pairs_of [] = Some []
pairs_of (word ∷ []) = option_map (λ (pair : Pair). pair ∷ []) (pair_in word)
pairs_of (word ∷ value ∷ words) = elim (pair_in word) [
  | None ↦ with_two_words word value (pairs_of words)
  | Some pair ↦ with_pair pair (pairs_of (value ∷ words))
]

-- the values of an option, in order
abbrev pub values_of : List ℕ → List Pair → List (List ℕ)
values_of name pairs =
    map (λ (p : Pair). p.value) (filter (λ (p : Pair). bytes_eq p.name name) pairs)

abbrev pub is_among : List (List ℕ) → List ℕ → Bool
is_among names word = list_any (λ (name : List ℕ). bytes_eq word name) names

-- each option is one of these
abbrev pub are_known : List (List ℕ) → List Pair → Bool
are_known names pairs = list_all (λ (p : Pair). is_among names p.name) pairs

-- words that are options with known names alone
abbrev pub options_in : (List ℕ → Bool) → List (List ℕ) → Option (List Pair)
options_in is_known words = option_and_then
    (λ (pairs : List Pair). if list_all (λ (p : Pair). is_known p.name) pairs then Some pairs
    else None) (pairs_of words)

-- the value of an option that stands once
abbrev pub only : List (List ℕ) → Option (List ℕ)
only (value ∷ []) = Some value
only values = None

-- the value of an option that needn't stand, and stands once at most
abbrev pub at_most_one : List (List ℕ) → Option (Option (List ℕ))
at_most_one [] = Some None
at_most_one (value ∷ []) = Some (Some value)
at_most_one values = None
