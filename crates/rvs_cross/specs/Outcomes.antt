-- What a step of reading a cross point comes to: what it reads, or why the text is refused.
use Rattle.std.specs.Prelude.{List, [], ◌∷◌, Result, Ok}
use Rattle.rvs_text.specs.Outcomes.{◌>>=◌}
use Rattle.rvs_cross.specs.declared.refusal.CrossRefusal.{CrossRefusal}

abbrev pub Outcome : Type 0 → Type 0
Outcome A = Result A CrossRefusal

-- one step after another, each from what the one before it came to
abbrev pub for_each : {A S : Type 0} → (A → S → Outcome S) → List A → S → Outcome S
for_each f [] s = Ok s
for_each f (x ∷ xs) s = f x s >>= for_each f xs
