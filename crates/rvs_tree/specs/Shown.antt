-- How deep the values are that are new in one, by their keys, as far as maps around it leave them.
use Rattle.std.specs.Prelude.{ℕ, ◌≡◌, true, max, min, if◌then◌else◌, List, [], ◌∷◌, ◌++◌, map}
use Rattle.rvs_tree.specs.Data.{Data, Pairs, depth}
use Rattle.rvs_tree.specs.Value.{Written, has_key, keys_of, explicit_keys, resolved, merged_pairs}
use Rattle.rvs_tree.specs.Bound.{pairs_depth}
use Rattle.rvs_tree.specs.Sifted.{sift}

-- how deep they are where these keys are taken
abbrev pub Shown : Type 0
Shown = List (List ℕ) → ℕ

-- all that a merged value brings
abbrev pub shown_by : Data → Shown
shown_by d T = pairs_depth (sift T (merged_pairs d))

-- each key of the first is one of the second
abbrev pub Holds : List (List ℕ) → List (List ℕ) → Type 0
Holds T U = (k : List ℕ) → has_key k T ≡ true → has_key k U ≡ true

-- a value of such a depth at a key
abbrev pub at_key : List ℕ → ℕ → Shown
at_key k n T = if has_key k T then 0 else n

-- the keys that a map of these entries has
abbrev pub keys_so_far : List Written → List (List ℕ)
keys_so_far ws = explicit_keys ws ++ keys_of (resolved (explicit_keys ws) [] ws)

-- what is left where a map of these entries takes it
abbrev pub left_by : List Written → Shown → Shown
left_by ws f T = f ((keys_of (resolved (explicit_keys ws) [] ws) ++ T) ++ keys_so_far ws)

-- keys, and how deep their values are, from 33 on counted as 33
abbrev pub key_depths : Pairs → List (List ℕ × ℕ)
key_depths ps = map (λ p. (p.0, min (depth p.1) 33)) ps

abbrev pub visible : List (List ℕ × ℕ) → Shown
visible [] T = 0
visible (p ∷ ps) T = max (at_key p.0 p.1 T) (visible ps T)
