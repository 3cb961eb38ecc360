-- The three lists of a cross point, and the parts of a list.
use Rattle.std.specs.Prelude.{ℕ, ◌==◌, if◌then◌else◌, List, length, Option, Some, None, codes}
use Rattle.std.specs.Option.{option_and_then}
use Rattle.rvs_text.specs.Spaces.{without_spaces}
use Rattle.rvs_text.specs.Parts.{around, behind_token, parts}

-- the entries of a list
abbrev pub entries : List ℕ → List (List ℕ)
entries text = parts 58 text

-- what stands between the brackets of a list at the front, and what is behind the list
abbrev pub list_at : List ℕ → Option (List ℕ × List ℕ)
list_at text = option_and_then (around 93) (behind_token (codes "[") text)

-- the same, behind `::`
abbrev pub next_list : List ℕ → Option (List ℕ × List ℕ)
next_list text = option_and_then list_at (behind_token (codes "::") text)

-- what stands between the brackets of each list
pub record Lists : Type 0 where
  pub mnemonics : List ℕ
  pub assignments : List ℕ
  pub conditions : List ℕ

-- the three lists by what the first, the second and the third are; nothing but spaces follows
abbrev pub third : List ℕ → List ℕ → (List ℕ × List ℕ) → Option Lists
third a b c =
    if length (without_spaces c.1) == 0
    then Some (record { mnemonics = a; assignments = b; conditions = c.0 })
    else None

abbrev pub second : List ℕ → (List ℕ × List ℕ) → Option Lists
second a b = option_and_then (third a b.0) (next_list b.1)

abbrev pub first : (List ℕ × List ℕ) → Option Lists
first a = option_and_then (second a.0) (next_list a.1)

abbrev pub lists : List ℕ → Option Lists
lists text = option_and_then first (list_at text)
