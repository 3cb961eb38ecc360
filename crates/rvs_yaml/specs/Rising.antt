-- How many anchors were complete when each open block began.
use Rattle.std.specs.Prelude.{◌≤◌, ℕ, List, [], ◌∷◌, map, reverse}
use Rattle.std.specs.Coded.{×_prop, le_prop}
use Rattle.rvs_yaml.specs.declared.open.Open.{Open}

-- the innermost first
abbrev pub befores : List Open → List ℕ
befores bs = map (λ b. b.block.before) (reverse bs)

-- No block began with more anchors than the one in it, nor with more than n, and the outermost
-- began with none.
abbrev pub Rises : ℕ → List ℕ → Type 0
Rises n [] = n ≤ 0
Rises n (m ∷ ms) = (m ≤ n) × Rises m ms

pub Rises-prop : (n : ℕ) (ms : List ℕ) → IsProp (Rises n ms)
Rises-prop n [] = le_prop
Rises-prop n (m ∷ ms) = ×_prop le_prop (Rises-prop m ms)
