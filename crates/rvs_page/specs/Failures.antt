-- The failures on a page.
use Rattle.std.specs.Prelude.{ℕ, ◌==◌, ◌++◌, if◌then◌else◌, List, [], ◌∷◌}
use Rattle.std.specs.Prelude.{length, take, drop, codes}
use Rattle.std.specs.List.{flat_map, list_any}
use Rattle.rvs_page.specs.Pieces.{told}
use Rattle.rvs_page.specs.Shown.{fails, label_fails}
use Rattle.rvs_page.specs.Said.{badge, said_whole}
use Rattle.rvs_page.specs.declared.pieces.Piece.TheVariants.{Html, Text, Number, Word}
use Rattle.rvs_page.specs.declared.shown.Case.{Case}
use Rattle.rvs_page.specs.declared.shown.Label.{Label}

-- a word of the core that isn't the reference's is marked
abbrev pub unlike : ℕ → ℕ → List ℕ
unlike core reference = if core == reference then [] else codes " class=\"bad\""

-- a case: its point, its instructions, both words of the core and both of the reference
unfoldable pub case_row : Case → List ℕ
case_row c =
    told (Html (codes "<tr><td class=\"n\">") ∷ Number c.number ∷ Html (codes "</td><td>")
    ∷ Text c.kind ∷ Html (codes "</td><td class=\"key\">") ∷ Text c.key
    ∷ Html (codes "</td><td class=\"key\">") ∷ Text c.code ∷ Html (codes "</td><td><code")
    ∷ Html (unlike c.core.0 c.reference.0) ∷ Html (codes ">") ∷ Word c.core.0
    ∷ Html (codes "</code> <code") ∷ Html (unlike c.core.1 c.reference.1) ∷ Html (codes ">")
    ∷ Word c.core.1 ∷ Html (codes "</code></td><td><code>") ∷ Word c.reference.0
    ∷ Html (codes "</code> <code>") ∷ Word c.reference.1
    ∷ Html (codes "</code></td></tr>\n") ∷ [])

unfoldable pub cases_head : List ℕ
cases_head =
    told (Html (codes "<div class=\"wide\"><table>\n<thead><tr><th class=\"n\">case</th>")
    ∷ Html (codes "<th>kind</th><th>point</th><th>instruction</th><th>core</th>")
    ∷ Html (codes "<th>reference</th></tr></thead>\n<tbody>\n") ∷ [])

unfoldable pub cases_table : List Case → List ℕ
cases_table cases =
    cases_head
    ++ (flat_map case_row cases ++ told (Html (codes "</tbody>\n</table></div>\n") ∷ []))

-- so many cases of a test are shown at once, and the rest is folded
abbrev pub most_shown : ℕ
most_shown = 8

unfoldable pub folded_head : ℕ → List ℕ
folded_head number =
    told (Html (codes "<details>\n<summary>") ∷ Number number
    ∷ Html (codes " more cases</summary>\n") ∷ [])

abbrev pub folded : List Case → List ℕ
folded cases =
    folded_head (length cases) ++ (cases_table cases ++ told (Html (codes "</details>\n") ∷ []))

unfoldable pub folded_cases : List Case → List ℕ
folded_cases [] = []
folded_cases (c ∷ cases) = folded (c ∷ cases)

abbrev pub shown_cases : List Case → List ℕ
shown_cases cases =
    cases_table (take most_shown cases) ++ folded_cases (drop most_shown cases)

-- all the cases that differ
unfoldable pub cases_text : List Case → List ℕ
cases_text [] = []
cases_text (c ∷ cases) = shown_cases (c ∷ cases)

unfoldable pub failed_name : Label → List ℕ
failed_name l =
    told (Html (codes " <a href=\"#l-") ∷ Text l.name ∷ Html (codes "\">") ∷ Text l.name
    ∷ Html (codes "</a></h3>\n<p>") ∷ [])

abbrev pub failed_text : Label → List ℕ
failed_text l =
    told (Html (codes "<article class=\"fail\">\n<h3>") ∷ [])
    ++ (badge l.state ++ (failed_name l
    ++ (said_whole l ++ (told (Html (codes "</p>\n") ∷ [])
    ++ (cases_text l.cases ++ told (Html (codes "</article>\n") ∷ []))))))

-- a label, where its test fails
unfoldable pub failure_text : Label → List ℕ
failure_text l = if fails l.state then failed_text l else []

abbrev pub section : List Label → List ℕ
section labels =
    told (Html (codes "<section>\n<h2>Failures</h2>\n") ∷ [])
    ++ (flat_map failure_text labels ++ told (Html (codes "</section>\n") ∷ []))

unfoldable pub failures_text : List Label → List ℕ
failures_text labels = if list_any label_fails labels then section labels else []
