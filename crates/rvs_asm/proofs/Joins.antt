-- Lists of lines that stand one after the other.
use Rattle.std.proofs.Common.{◌≡◌, ℕ, Bool, List, [], ◌∷◌, ◌++◌, refl}
use Rattle.std.proofs.Common.{append_assoc}
use Rattle.rvs_asm.specs.declared.location.Location.{Location}
use Rattle.rvs_asm.specs.Locations.{Reading, body_of, next, location_after}
use Rattle.rvs_asm.specs.Bytes.{section}

pub section_join : (text : Bool) (env : List ℕ → ℕ) (xs ys : List Reading) (p : Location)
    → section text env (xs ++ ys) p
    ≡ section text env xs p ++ section text env ys (location_after xs p)
section_join text env [] ys p = refl
section_join text env (x ∷ xs) ys p =
    simp (append_assoc, (section_join text env xs ys (next p (body_of x))))
