-- Whether places use a variable, in code and in what they stand for.
use Rattle.std.proofs.Common.{◌≡◌, ◌||◌, List, [], ◌∷◌, map, refl, ap}
use Rattle.std.specs.List.{list_any}
use Rattle.rvs_cross.specs.declared.cross.Variable.{Variable}
use Rattle.rvs_cross.specs.declared.cross.Place as code
use Rattle.rvs_cross.specs.CrossView.{place_view}
use Rattle.rvs_cross.specs.Windows.{says_of, is_used}

pub used_map : (x : Variable) (ps : List code.Place)
    → list_any (λ p. says_of x (place_view p)) ps ≡ is_used (map place_view ps) x
used_map x [] = refl
used_map x (p ∷ ps) = ap (λ b. says_of x (place_view p) || b) (used_map x ps)
