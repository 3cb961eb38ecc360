-- What a page shows of a label.
use Rattle.std.specs.Prelude.{ℕ, ◌+◌, ◌*◌, ◌==◌, ◌||◌, not, Bool, true, false}
use Rattle.std.specs.Prelude.{if◌then◌else◌, List, [], ◌∷◌, ◌++◌, map, length, codes, decimal}
use Rattle.std.specs.Prelude.{Option, Some, None, slice_get, unwrap_or, bytes_eq, take}
use Rattle.rvs_base.specs.Lines.{cut_lines}
use Rattle.rvs_points.specs.Points.{Label, Point, Skipped, Meaning, window}
use Rattle.rvs_points.specs.Kinds.{kind_name}
use Rattle.rvs_page.specs.declared.shown.State.TheVariants as state
use Rattle.rvs_page.specs.declared.shown.Case.{Case}
use Rattle.rvs_page.specs.declared.shown.Point.{Point as ShownPoint}
use Rattle.rvs_page.specs.declared.shown.Skipped.{Skipped as ShownSkipped}
use Rattle.rvs_page.specs.declared.shown.Label.{Label as ShownLabel}
use Rattle.rvs_test_text.specs.declared.claim.Claim.{Claim}
use Rattle.rvs_test_text.specs.Claims.{case_at, claims_after}
use Rattle.rvs_showing.specs.declared.found.Found.{Found}

-- both words of a case
abbrev pub word_at : List ℕ → ℕ → ℕ
word_at words at = unwrap_or (slice_get words at) 0

abbrev pub pair_at : List ℕ → ℕ → ℕ × ℕ
pair_at words case = (word_at words (case * 2), word_at words (case * 2 + 1))

-- a word of the case differs
abbrev pub differs : Found → ℕ → Bool
differs found case =
    not (word_at found.device (case * 2) == word_at found.reference (case * 2))
    || not (word_at found.device (case * 2 + 1) == word_at found.reference (case * 2 + 1))

abbrev pub case_differs : Found → Option ℕ → Bool
case_differs found None = false
case_differs found (Some case) = differs found case

abbrev pub shown_point : Found → Option ℕ → ℕ → Point → ShownPoint
shown_point found case hits p = record {
  case = case;
  kind = kind_name p.kind;
  key = p.key;
  hits = hits;
  differs = case_differs found case;
}

-- the points from the k-th on, with the claims of them and with their counts
abbrev pub shown_points : Found → List ℕ → List Claim → ℕ → List Point → List ShownPoint
shown_points found counts claims k [] = []
shown_points found counts claims k (p ∷ ps) =
    shown_point found (case_at claims k) (word_at counts k) p
    ∷ shown_points found counts (claims_after claims k) (k + 1) ps

abbrev pub shown_skipped : Skipped → ShownSkipped
shown_skipped s = record { node = s.node; key = s.key }

-- a label that isn't selected
abbrev pub shown_unselected : Label → ShownLabel
shown_unselected l = record {
  name = l.name;
  selected = false;
  state = state.NoTest;
  cases = [];
  points = [];
  skipped = [];
}

-- ---- the instructions of a case, as they stand in the test's text
-- the lines behind the symbol of a case
abbrev pub symbol_of : ℕ → List ℕ
symbol_of case = codes "case_" ++ (decimal case ++ codes ":")

abbrev pub behind : List ℕ → List (List ℕ) → List (List ℕ)
behind symbol [] = []
behind symbol (line ∷ lines) = if bytes_eq line symbol then lines else behind symbol lines

abbrev pub without_indent : List ℕ → List ℕ
without_indent [] = []
without_indent (b ∷ line) = elim (b == 32) [ true ↦ without_indent line | false ↦ b ∷ line ]

-- a text that so many lines made, begun for one more
abbrev pub begun : ℕ → List ℕ → List ℕ
begun place code = if place == 0 then code else code ++ 10 ∷ []

-- lines with a line feed between
abbrev pub lines_joined : List (List ℕ) → List ℕ
lines_joined [] = []
lines_joined (line ∷ []) = line
lines_joined (line ∷ next ∷ lines) = line ++ 10 ∷ lines_joined (next ∷ lines)

abbrev pub code_of : ℕ → List (List ℕ) → List ℕ
code_of count lines = lines_joined (map without_indent (take count lines))

-- a cross point has an instruction a place, and any other point one
abbrev pub places_of : Meaning → ℕ
places_of (window places) = length places
places_of _ = 1

-- ---- the cases of which a word differs, in order; their symbols stand in the test in their order
abbrev pub shown_case : Found → ℕ → List (List ℕ) → Option Point → List Case
shown_case found case lines None = []
shown_case found case lines (Some p) = record {
  number = case;
  kind = kind_name p.kind;
  key = p.key;
  code = code_of (places_of p.meaning) lines;
  core = pair_at found.device case;
  reference = pair_at found.reference case;
} ∷ []

abbrev pub shown_cases : Found → List Point → List (List ℕ) → List Claim → List Case
shown_cases found points lines [] = []
shown_cases found points lines (c ∷ claims) =
    if differs found c.case
    then shown_case found c.case (behind (symbol_of c.case) lines) (slice_get points c.point)
    ++ shown_cases found points (behind (symbol_of c.case) lines) claims
    else shown_cases found points lines claims

-- a label with what is found of its test
abbrev pub shown_label : Found → List ℕ → List ℕ → List Claim → Label → ShownLabel
shown_label found text counts claims l = record {
  name = l.name;
  selected = true;
  state = found.state;
  cases = shown_cases found l.points (cut_lines text) claims;
  points = shown_points found counts claims 0 l.points;
  skipped = map shown_skipped l.skipped;
}
