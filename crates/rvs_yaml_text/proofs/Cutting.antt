-- Cutting a text into lines.
use Rattle.std.proofs.Common.{◌≡◌, ℕ, Bool, List, [], ◌∷◌, ◌++◌}
use Rattle.std.proofs.Common.{refl, arith}
use Rattle.std.specs.Prelude.{◌==◌, if◌then◌else◌}
use Rattle.rvs_yaml_text.specs.Text.{onto_first, cut}

-- lines with more text at the front of the first
abbrev pub onto_front : List ℕ → List (List ℕ) → List (List ℕ)
onto_front xs [] = xs ∷ []
onto_front xs (l ∷ ls) = (xs ++ l) ∷ ls

start-by : (t : Bool) (b : ℕ) (ls : List (List ℕ))
    → onto_front [] (if t then [] ∷ ls else onto_first b ls)
    ≡ (if t then [] ∷ ls else onto_first b ls)
start-by t b ls = grind arith

pub cut-start : (bs : List ℕ) → onto_front [] (cut bs) ≡ cut bs
cut-start [] = refl
cut-start (b ∷ bs) = start-by (b == 10) b (cut bs)
