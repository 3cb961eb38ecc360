-- What the code knows of what is new in a value.
use Rattle.std.specs.Prelude.{◌≡◌, ℕ, ◌≤◌, Bool, false, min, if◌then◌else◌, List, [], ◌++◌}
use Rattle.rvs_tree.specs.Data.{depth}
use Rattle.rvs_tree.specs.Value.{Value}
use Rattle.rvs_tree.specs.Shown.{Shown, Holds, shown_by, visible}
use Rattle.rvs_tree.specs.ShownView.{depths_view}
use Rattle.rvs_yaml.specs.Chain.{chained, in_chain, done_keys, chain_keys}
use Rattle.rvs_yaml.specs.Reach.{passed, deepened}
use Rattle.rvs_yaml.specs.Stack.{Done, Open}
use Rattle.rvs_yaml.specs.declared.seen.Seen.{Seen}

abbrev Keys : Type 0
Keys = List (List ℕ)

pub record Tells (s : Seen) (f : Shown) (n : ℕ) : Type 0 where
  pub deep : min n 33 ≤ s.depth
  pub shown : (T : List (List ℕ)) → min (f T) 33 ≤ visible (depths_view s.depths.items) T

-- The same where these keys are taken around it, and where it merges into a map or doesn't: how
-- deep it is by itself counts only where it doesn't.
pub record TellsIn (inside : Bool) (keys : Keys) (s : Seen) (f : Shown) (n : ℕ) : Type 0 where
  pub deep : inside ≡ false → min n 33 ≤ s.depth
  pub shown : (T : Keys) → Holds keys T → min (f T) 33 ≤ visible (depths_view s.depths.items) T

-- the same of what is new in the open member of these blocks
abbrev pub TellsAt : List Open → Seen → Shown → ℕ → Type 0
TellsAt bs = TellsIn (in_chain bs) (chain_keys bs)

-- the keys that are taken around the open member of a block, where these are around the block
abbrev pub around : Done → Bool → List (List ℕ) → List (List ℕ)
around d inside keys = if chained d inside then done_keys d ++ keys else []

-- what a step from the open member of a block to the block keeps
abbrev pub Steps : Done → Bool → List (List ℕ) → Seen → Seen → Type 0
Steps d inside keys s new = (f : Shown) (n : ℕ)
    → TellsIn (chained d inside) (around d inside keys) s f n
    → TellsIn inside keys new (passed d n f) (deepened d f n)

-- what is known of a value that is new
abbrev pub TellsOf : Seen → Value → Type 0
TellsOf s v = Tells s (shown_by v.tree) (depth v.tree)
