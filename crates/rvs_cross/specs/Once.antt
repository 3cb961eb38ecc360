-- Lists without what they repeat.
use Rattle.std.specs.Prelude.{not, Bool, if◌then◌else◌, List, [], ◌∷◌, ◌++◌, filter}
use Rattle.std.specs.List.{list_any}

-- each once, in the order in which they come first
abbrev pub each_once : {X : Type 0} → (X → X → Bool) → List X → List X
each_once same [] = []
each_once same (x ∷ xs) = x ∷ filter (λ y. not (same x y)) (each_once same xs)

-- with one more, where it isn't there yet
abbrev pub with_one : {X : Type 0} → (X → X → Bool) → List X → X → List X
with_one same xs x = if list_any (λ y. same y x) xs then xs else (xs ++ x ∷ [])
