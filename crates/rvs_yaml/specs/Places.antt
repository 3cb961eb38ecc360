-- Where names stand in a list.
use Rattle.std.specs.Prelude.{ℕ, suc, if◌then◌else◌, List, [], ◌∷◌, Option, Some, None, bytes_eq}

-- the last place of a name, where the first of these has place i, and else what was found before
-- them
abbrev pub place_from : List ℕ → ℕ → Option ℕ → List (List ℕ) → Option ℕ
place_from k i before [] = before
place_from k i before (n ∷ ns) = place_from k (suc i) (if bytes_eq n k then Some i else before) ns

abbrev pub last_place : List ℕ → List (List ℕ) → Option ℕ
last_place k ns = place_from k 0 None ns
