-- Parts of a text.
use Rattle.std.specs.Prelude.{ℕ, ◌-◌, ◌==◌, ◌&&◌, nat_lt, if◌then◌else◌, List, [], ◌∷◌, take, drop}
use Rattle.std.specs.Prelude.{length, Option, Some, None, option_map, slice_index, bytes_eq}
use Rattle.std.specs.List.{position_or_len, before_first, after_first, slice_split}
use Rattle.rvs_text.specs.Spaces.{without_spaces}

-- what stands behind these letters, where a text begins with them
abbrev pub behind : List ℕ → List ℕ → Option (List ℕ)
behind letters text =
    if bytes_eq (take (length letters) text) letters
    then Some (drop (length letters) text)
    else None

-- the same, where spaces may stand before the letters
abbrev pub behind_token : List ℕ → List ℕ → Option (List ℕ)
behind_token letters text = behind letters (without_spaces text)

-- what stands before this byte, where a text ends with it
abbrev pub before_end : ℕ → List ℕ → Option (List ℕ)
before_end b text = if nat_lt 0 (length text) && slice_index text (length text - 1) == b
    then Some (take (length text - 1) text) else None

-- what stands before and behind the first byte that is this one
abbrev pub around : ℕ → List ℕ → Option (List ℕ × List ℕ)
around b text =
    if nat_lt (position_or_len (λ c. c == b) text) (length text)
    then Some (before_first (λ c. c == b) text, after_first (λ c. c == b) text)
    else None

-- what stands before and behind these letters, where they stand first
abbrev pub around_text : List ℕ → List ℕ → Option (List ℕ × List ℕ)
around_text letters [] = None
around_text letters (c ∷ cs) =
    elim (behind letters (c ∷ cs)) [
      | None ↦ option_map (λ p. (c ∷ p.0, p.1)) (around_text letters cs)
      | Some rest ↦ Some ([], rest)
    ]

-- what stands between the bytes that are this one
abbrev pub parts : ℕ → List ℕ → List (List ℕ)
parts b text = slice_split (λ c. c == b) text
