-- How many collections and nodes stand inside one another in a flow collection at most.
use Rattle.std.specs.Prelude.{ℕ, suc, ◌+◌, ◌-◌, max, List, [], ◌∷◌, Option, Some, None}
use Rattle.rvs_tree.specs.Data.{depth}
use Rattle.rvs_tree.specs.Value.{Value}
use Rattle.rvs_yaml.specs.Anchors.{Anchors, lookup}
use Rattle.rvs_yaml_text.specs.Word.{Token, opening, closing, alias_token}

abbrev pub found_depth : Option Value → ℕ
found_depth None = 0
found_depth (Some v) = depth v.tree

-- the level behind a token
abbrev pub level_behind : ℕ → Token → ℕ
level_behind level (opening b) = suc level
level_behind level (closing b) = level - 1
level_behind level m = level

-- how deep it gets at a token, by the depths of what aliases stand for
abbrev pub reach_by : (List ℕ → ℕ) → ℕ → Token → ℕ
reach_by depths level (opening b) = suc level
reach_by depths level (closing b) = 0
reach_by depths level (alias_token name) = level + depths name
reach_by depths level m = suc level

-- how deep it gets with these tokens, where so many collections are open
abbrev pub height_by : (List ℕ → ℕ) → ℕ → List Token → ℕ
height_by depths level [] = 0
height_by depths level (m ∷ ms) =
    max (reach_by depths level m) (height_by depths (level_behind level m) ms)

-- the same with the depths of known anchors
abbrev pub depths_of : Anchors → List ℕ → ℕ
depths_of known name = found_depth (lookup name known)

abbrev pub reach : Anchors → ℕ → Token → ℕ
reach known level m = reach_by (depths_of known) level m

abbrev pub height : Anchors → ℕ → List Token → ℕ
height known level ms = height_by (depths_of known) level ms

-- and with one depth for all
abbrev pub alike : ℕ → List ℕ → ℕ
alike most name = most
