-- What `generate` puts: the cases, what is left, and how many tests there are.
use Rattle.std.specs.Prelude.{ℕ, ◌+◌, min, if◌then◌else◌, List, [], ◌∷◌}
use Rattle.std.specs.Prelude.{◌++◌, length, Option, Some, None, codes}
use Rattle.std.specs.List.{flat_map}
use Rattle.std.specs.Fmt.{decimal}
use Rattle.rvs_insn.specs.Isa.{Isa}
use Rattle.rvs_cgf.specs.Groups.{Label, Point}
use Rattle.rvs_points.specs.Kinds.{kind_name}
use Rattle.rvs_count.specs.Report.{skipped_line, unselected_line}
use Rattle.rvs_test_text.specs.declared.claim.Claim.{Claim}
use Rattle.rvs_test.specs.Made.{claims_of, unsolved_of, cases_of, text_of_label}
use Rattle.rvs_test_text.specs.TestText.{step_limit}
use Rattle.rvs_test_text.specs.Claims.{case_at, claims_after}

-- a point that a case hits
abbrev pub case_line : ℕ → Point → List ℕ
case_line k p =
    codes "case "
    ++ (decimal k ++ (codes " " ++ (kind_name p.kind ++ (codes " " ++ (p.key ++ codes "\n")))))

-- a point that no choice hits
abbrev pub unsolved_line : Point → List ℕ
unsolved_line p = codes "unsolved " ++ (kind_name p.kind ++ (codes " " ++ (p.key ++ codes "\n")))

abbrev pub point_line : Option ℕ → Point → List ℕ
point_line None p = unsolved_line p
point_line (Some case) p = case_line case p

-- the points from the k-th on, in their order, with the claims of them, which are in that order too
abbrev pub point_lines : List Claim → ℕ → List Point → List ℕ
point_lines claims k [] = []
point_lines claims k (p ∷ ps) =
    point_line (case_at claims k) p ++ point_lines (claims_after claims k) (k + 1) ps

-- how many instructions the test takes at most, where one is written
abbrev pub steps_line : Option (List ℕ) → ℕ → List ℕ
steps_line None steps = []
steps_line (Some text) steps = codes "steps " ++ (decimal steps ++ codes "\n")

abbrev pub name_line : List ℕ → List ℕ
name_line name = codes "label " ++ (name ++ codes "\n")

-- a selected label with what was made of it
abbrev pub made_text : Label → List Claim → Option (List ℕ) → ℕ → List ℕ
made_text l claims text steps =
    name_line l.name ++ (point_lines claims 0 l.points
    ++ (flat_map skipped_line l.skipped ++ steps_line text steps))

abbrev pub selected_text : Isa → Label → List ℕ
selected_text isa l =
    made_text l (claims_of isa l) (text_of_label isa l) (step_limit (cases_of isa l))

abbrev pub label_text : Isa → Label → List ℕ
label_text isa l = if l.selected then selected_text isa l
    else unselected_line l.name

-- how many tests, cases, points without one, and skipped entries there are
pub record Totals : Type 0 where
  pub tests : ℕ
  pub cases : ℕ
  pub unsolved : ℕ
  pub skipped : ℕ

abbrev pub none : Totals
none = record { tests = 0; cases = 0; unsolved = 0; skipped = 0 }

-- a number stands at 2^64 - 1 where it would be greater
abbrev pub sum_up_to_most : ℕ → ℕ → ℕ
sum_up_to_most a b = min 18_446_744_073_709_551_615 (a + b)

abbrev pub tests_in : Option (List ℕ) → ℕ
tests_in None = 0
tests_in (Some text) = 1

abbrev pub with_made : Totals → Label → List Claim → List ℕ → Option (List ℕ) → Totals
with_made t l claims unsolved text = record {
  tests = sum_up_to_most t.tests (tests_in text);
  cases = sum_up_to_most t.cases (length claims);
  unsolved = sum_up_to_most t.unsolved (length unsolved);
  skipped = sum_up_to_most t.skipped (length l.skipped);
}

abbrev pub with_selected : Isa → Totals → Label → Totals
with_selected isa t l = with_made t l (claims_of isa l) (unsolved_of isa l) (text_of_label isa l)

abbrev pub with_label : Isa → Totals → Label → Totals
with_label isa t l = if l.selected then with_selected isa t l else t

-- the totals with those of more labels
abbrev pub with_labels : Isa → Totals → List Label → Totals
with_labels isa t [] = t
with_labels isa t (l ∷ ls) = with_labels isa (with_label isa t l) ls

abbrev pub total_line : Totals → List ℕ
total_line t =
    codes "total " ++ (decimal t.tests ++ (codes " tests, " ++ (decimal t.cases ++ (codes " cases, "
    ++ (decimal t.unsolved
    ++ (codes " unsolved, " ++ (decimal t.skipped ++ codes " skipped\n")))))))

-- the labels in their order, and the totals
unfoldable pub listing : Isa → List Label → List ℕ
listing isa ls = flat_map (label_text isa) ls ++ total_line (with_labels isa none ls)
