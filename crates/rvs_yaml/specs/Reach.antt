-- How deep what the last word has brought can be.
use Rattle.std.specs.Prelude.{◌≡◌, ℕ, suc, ◌+◌, ◌≤◌, max, if◌then◌else◌, List, [], ◌∷◌, ◌++◌, Ok}
use Rattle.rvs_tree.specs.Data.{depth}
use Rattle.rvs_tree.specs.Value.{Value, trees, keys_of, pairs_in}
use Rattle.rvs_tree.specs.Shown.{Shown, shown_by, at_key, keys_so_far, left_by}
use Rattle.rvs_yaml.specs.Stack.{Done, done_items, done_entries, alone, Open}
use Rattle.rvs_yaml.specs.Front.{own_value, front_value}

-- How much deeper the open member of a block makes the block: what is merged makes it no deeper.
abbrev pub level : Done → ℕ
level (done_items vs) = 1
level (done_entries ws k) = if k.merges then 0 else 1
level alone = 0

abbrev pub levels : List Open → ℕ
levels [] = 0
levels (b ∷ bs) = level b.done + levels bs

-- a bound on the depth of what the last word has brought, whatever keys stand around it
abbrev pub reach : List Open → ℕ
reach [] = 1
reach (b ∷ bs) = depth (own_value b).tree + levels (b ∷ bs)

-- What is new in a block, by its keys, from what is new in its open member, which is so deep: a map
-- takes of what it merges only what has other keys than it has.
abbrev pub passed : Done → ℕ → Shown → Shown
passed (done_items vs) n f T = f (keys_of (pairs_in (trees vs)) ++ T)
passed (done_entries ws k) n f T = if k.merges then left_by ws f T else at_key k.name n T
passed alone n f T = f T

-- and how deep that makes the block
abbrev pub deepened : Done → Shown → ℕ → ℕ
deepened (done_items vs) f n = suc n
deepened (done_entries ws k) f n = if k.merges then suc (f (keys_so_far ws)) else suc n
deepened alone f n = n

abbrev pub seen : Shown → ℕ → List Open → ℕ
seen f n [] = n
seen f n (b ∷ bs) = seen (passed b.done n f) (deepened b.done f n) bs

-- a bound on the depth of what the last word has brought, as far as the keys around it leave it
abbrev pub sight : List Open → ℕ
sight [] = 1
sight (b ∷ bs) = seen (shown_by (own_value b).tree) (depth (own_value b).tree) (b ∷ bs)

-- Only what the last word has brought can be too deep.
abbrev pub KeepsDepth : List Open → Type 0
KeepsDepth bs = (v : Value) → front_value bs ≡ Ok v → depth v.tree ≤ max 32 (sight bs)
