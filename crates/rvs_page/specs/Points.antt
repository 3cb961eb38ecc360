-- The points on a page, label by label.
use Rattle.std.specs.Prelude.{ℕ, ◌++◌, Bool, true, false, if◌then◌else◌, List}
use Rattle.std.specs.Prelude.{[], ◌∷◌, length, codes}
use Rattle.std.specs.Prelude.{Option, Some, None}
use Rattle.std.specs.List.{flat_map}
use Rattle.rvs_page.specs.Pieces.{told}
use Rattle.rvs_page.specs.Shown.{tested, unsolved}
use Rattle.rvs_page.specs.declared.pieces.Piece.TheVariants.{Html, Text, Number}
use Rattle.rvs_page.specs.declared.shown.Point.{Point}
use Rattle.rvs_page.specs.declared.shown.Skipped.{Skipped}
use Rattle.rvs_page.specs.declared.shown.Label.{Label}

abbrev pub differs_class : Bool → List ℕ
differs_class true = codes " class=\"bad\""
differs_class false = []

-- a point's case; that of one which differs is marked
unfoldable pub numbered_cell : ℕ → Bool → List ℕ
numbered_cell case differs =
    told (Html (codes "<tr") ∷ Html (differs_class differs) ∷ Html (codes "><td>case ")
    ∷ Number case ∷ [])

unfoldable pub case_cell : Option ℕ → Bool → List ℕ
case_cell None differs = told (Html (codes "<tr class=\"u\"><td>unsolved") ∷ [])
case_cell (Some case) differs = numbered_cell case differs

unfoldable pub names_cells : List ℕ → List ℕ → List ℕ
names_cells kind key =
    told (Html (codes "</td><td>") ∷ Text kind ∷ Html (codes "</td><td class=\"key\">") ∷ Text key
    ∷ Html (codes "</td>") ∷ [])

-- how often the logs hit it, where logs are given
unfoldable pub counted_cell : ℕ → List ℕ
counted_cell hits = told (Html (codes "<td class=\"n\">") ∷ Number hits ∷ Html (codes "</td>") ∷ [])

unfoldable pub hits_cell : Bool → ℕ → List ℕ
hits_cell counted hits = if counted then counted_cell hits else []

unfoldable pub point_row : Bool → Point → List ℕ
point_row counted p =
    case_cell p.case p.differs ++ (names_cells p.kind p.key
    ++ (hits_cell counted p.hits ++ told (Html (codes "</tr>\n") ∷ [])))

abbrev pub no_hits : Bool → List ℕ
no_hits true = codes "<td></td></tr>\n"
no_hits false = codes "</tr>\n"

unfoldable pub skipped_row : Bool → Skipped → List ℕ
skipped_row counted s =
    told (Html (codes "<tr class=\"k\"><td>skipped</td><td>") ∷ Text s.node
    ∷ Html (codes "</td><td class=\"key\">") ∷ Text s.key ∷ Html (codes "</td>")
    ∷ Html (no_hits counted) ∷ [])

abbrev pub hits_head : Bool → List ℕ
hits_head true = codes "<th class=\"n\">hits</th>"
hits_head false = []

unfoldable pub points_head : Bool → Label → List ℕ
points_head counted l =
    told (Html (codes "<details id=\"l-") ∷ Text l.name ∷ Html (codes "\">\n<summary>")
    ∷ Text l.name ∷ Html (codes " <small>") ∷ Number (tested l) ∷ Html (codes " tested, ")
    ∷ Number (unsolved l) ∷ Html (codes " unsolved, ") ∷ Number (length l.skipped)
    ∷ Html (codes " skipped</small></summary>\n<table class=\"points\">\n<thead><tr>")
    ∷ Html (codes "<th>case</th><th>kind</th><th>point</th>") ∷ Html (hits_head counted)
    ∷ Html (codes "</tr></thead>\n<tbody>\n") ∷ [])

abbrev pub selected_points : Bool → Label → List ℕ
selected_points counted l =
    points_head counted l
    ++ (flat_map (point_row counted) l.points ++ (flat_map (skipped_row counted) l.skipped
    ++ told (Html (codes "</tbody>\n</table>\n</details>\n") ∷ [])))

unfoldable pub label_points : Bool → Label → List ℕ
label_points counted l = if l.selected then selected_points counted l else []

unfoldable pub points_text : Bool → List Label → List ℕ
points_text counted labels =
    told (Html (codes "<section>\n<h2>Points</h2>\n") ∷ [])
    ++ (flat_map (label_points counted) labels
    ++ told (Html (codes "</section>\n</main>\n</body>\n</html>\n") ∷ []))
