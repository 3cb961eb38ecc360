-- Which variables the places of a cross point say something of.
use Rattle.std.specs.Prelude.{ℕ, Bool, true, not, ◌&&◌, List, [], ◌∷◌, Option, Some, None}
use Rattle.std.specs.List.{list_any}
use Rattle.rvs_cross.specs.declared.cross.Variable.{Variable}
use Rattle.rvs_cross.specs.declared.cross.Assignment.{Assignment}
use Rattle.rvs_cross.specs.declared.cross.Place.{Place}
use Rattle.rvs_cross.specs.Windows.{same_variable}

abbrev pub says_in : Variable → List Assignment → Bool
says_in x sets = list_any (λ (s : Assignment). same_variable x s.variable) sets

abbrev pub sets_variable : Variable → Place → Bool
sets_variable x p = says_in x p.sets

abbrev pub is_used : List Place → Variable → Bool
is_used ps x = list_any (sets_variable x) ps

-- no variable has two assignments, in one place and in all
abbrev pub once_among : List Assignment → Bool
once_among [] = true
once_among (s ∷ sets) = not (says_in s.variable sets) && once_among sets

abbrev pub used_by : List Place → List Assignment → Bool
used_by ps sets = list_any (λ (s : Assignment). is_used ps s.variable) sets

abbrev pub assigns_once : List Place → Bool
assigns_once [] = true
assigns_once (p ∷ ps) = once_among p.sets && (not (used_by ps p.sets) && assigns_once ps)

-- a variable that is used stands for a register
abbrev pub is_bound : Bool → Option ℕ → Bool
is_bound used None = not used
is_bound used (Some r) = true
