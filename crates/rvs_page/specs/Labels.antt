-- The labels on a page, a row each.
use Rattle.std.specs.Prelude.{ℕ, ◌==◌, ◌++◌, Bool, true, false, if◌then◌else◌, List, [], ◌∷◌}
use Rattle.std.specs.Prelude.{length, codes}
use Rattle.std.specs.List.{flat_map}
use Rattle.rvs_page.specs.Pieces.{told}
use Rattle.rvs_page.specs.Shown.{tested, unsolved, hit, missed}
use Rattle.rvs_page.specs.Said.{badge, said_of}
use Rattle.rvs_page.specs.declared.pieces.Piece.TheVariants.{Html, Text, Number}
use Rattle.rvs_page.specs.declared.shown.Label.{Label}

unfoldable pub part : List ℕ → ℕ → List ℕ
part class number =
    told (Html (codes "<i class=\"") ∷ Html class ∷ Html (codes "\" style=\"flex-grow:")
    ∷ Number number ∷ Html (codes "\"></i>") ∷ [])

-- a part of a bar, as long as its number, or nothing
unfoldable pub segment : List ℕ → ℕ → List ℕ
segment class number = if number == 0 then [] else part class number

-- the points of a label: those of a case, those that no choice hits, and the skipped entries
unfoldable pub points_bar_begins : Label → List ℕ
points_bar_begins l =
    told (Html (codes "<td class=\"share\"><span class=\"bar\" role=\"img\" aria-label=\"points: ")
    ∷ Number (tested l) ∷ Html (codes " tested, ") ∷ Number (unsolved l)
    ∷ Html (codes " unsolved, ") ∷ Number (length l.skipped) ∷ Html (codes " skipped\">") ∷ [])

-- so many of so many
unfoldable pub bar_ends : ℕ → ℕ → List ℕ
bar_ends some all =
    told (Html (codes "</span></td><td class=\"n\">") ∷ Number some ∷ Html (codes " of ")
    ∷ Number all ∷ Html (codes "</td>") ∷ [])

unfoldable pub points_bar : Label → List ℕ
points_bar l =
    points_bar_begins l ++ (segment (codes "s") (tested l) ++ (segment (codes "u") (unsolved l)
    ++ (segment (codes "k") (length l.skipped) ++ bar_ends (tested l) (length l.points))))

-- and those that the logs hit
unfoldable pub coverage_bar_begins : Label → List ℕ
coverage_bar_begins l =
    told
    (Html (codes "<td class=\"share\"><span class=\"bar\" role=\"img\" aria-label=\"coverage: ")
    ∷ Number (hit l) ∷ Html (codes " hit, ") ∷ Number (missed l) ∷ Html (codes " not hit\">") ∷ [])

unfoldable pub coverage_bar : Label → List ℕ
coverage_bar l =
    coverage_bar_begins l ++ (segment (codes "h") (hit l) ++ (segment (codes "m") (missed l)
    ++ bar_ends (hit l) (length l.points)))

unfoldable pub coverage_cells : Bool → Label → List ℕ
coverage_cells counted l = if counted then coverage_bar l else []

abbrev pub span_of : Bool → ℕ
span_of counted = if counted then 6 else 4

unfoldable pub unselected_row : Bool → Label → List ℕ
unselected_row counted l =
    told (Html (codes "<tr class=\"off\"><td>") ∷ Text l.name ∷ Html (codes "</td><td colspan=\"")
    ∷ Number (span_of counted) ∷ Html (codes "\">unselected</td></tr>\n") ∷ [])

unfoldable pub row_name : Label → List ℕ
row_name l =
    told (Html (codes "<tr><td><a href=\"#l-") ∷ Text l.name ∷ Html (codes "\">") ∷ Text l.name
    ∷ Html (codes "</a></td><td>") ∷ [])

abbrev pub selected_row : Bool → Label → List ℕ
selected_row counted l =
    row_name l ++ (badge l.state ++ (told (Html (codes "</td><td>") ∷ [])
    ++ (said_of l ++ (told (Html (codes "</td>") ∷ [])
    ++ (points_bar l ++ (coverage_cells counted l ++ told (Html (codes "</tr>\n") ∷ [])))))))

unfoldable pub label_row : Bool → Label → List ℕ
label_row counted l = if l.selected then selected_row counted l else unselected_row counted l

abbrev pub legend_more : Bool → List ℕ
legend_more true = codes " <i class=\"h\"></i> hit in the logs <i class=\"m\"></i> not hit"
legend_more false = []

abbrev pub heads_more : Bool → List ℕ
heads_more true = codes "<th>coverage</th><th class=\"n\">hit</th>"
heads_more false = []

unfoldable pub labels_head : Bool → List ℕ
labels_head counted =
    told (Html (codes "<section>\n<h2>Labels</h2>\n<p class=\"legend\"><i class=\"s\"></i> tested")
    ∷ Html (codes " <i class=\"u\"></i> unsolved <i class=\"k\"></i> skipped")
    ∷ Html (legend_more counted) ∷ Html (codes "</p>\n<div class=\"wide\"><table>\n<thead><tr>")
    ∷ Html (codes "<th>label</th><th>verdict</th><th>detail</th><th>points</th>")
    ∷ Html (codes "<th class=\"n\">tested</th>") ∷ Html (heads_more counted)
    ∷ Html (codes "</tr></thead>\n<tbody>\n") ∷ [])

unfoldable pub labels_text : Bool → List Label → List ℕ
labels_text counted labels =
    labels_head counted ++ (flat_map (label_row counted) labels
    ++ told (Html (codes "</tbody>\n</table></div>\n</section>\n") ∷ []))
