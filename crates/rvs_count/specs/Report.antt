-- The report of a log's coverage.
use Rattle.std.specs.Prelude.{ℕ, ◌==◌, not, if◌then◌else◌, List, [], ◌∷◌, ◌++◌, length, take, drop}
use Rattle.std.specs.Prelude.{count_by, codes}
use Rattle.std.specs.List.{flat_map}
use Rattle.std.specs.Fmt.{decimal}
use Rattle.rvs_points.specs.Points.{Label, Point, Skipped}
use Rattle.rvs_points.specs.Kinds.{kind_name}

-- a point: its count, its kind and its key
abbrev pub point_line : ℕ → Point → List ℕ
point_line count p =
    decimal count ++ (codes " " ++ (kind_name p.kind ++ (codes " " ++ (p.key ++ codes "\n"))))

abbrev pub points_text : List ℕ → List Point → List ℕ
points_text (c ∷ cs) (p ∷ ps) = point_line c p ++ points_text cs ps
points_text _ _ = []

abbrev pub skipped_line : Skipped → List ℕ
skipped_line s = codes "skipped " ++ (s.node ++ (codes " " ++ (s.key ++ codes "\n")))

abbrev pub unselected_line : List ℕ → List ℕ
unselected_line name = codes "label " ++ (name ++ codes " unselected\n")

-- how many points were hit
abbrev pub hit_count : List ℕ → ℕ
hit_count counts = count_by (λ c. not (c == 0)) counts

abbrev pub hit_line : List ℕ → List ℕ → ℕ → List ℕ
hit_line name counts points =
    codes "label " ++ (name ++ (codes " hit " ++ (decimal (hit_count counts)
    ++ (codes " of " ++ (decimal points ++ codes "\n")))))

-- a label with its own counts
abbrev pub label_text : List ℕ → Label → List ℕ
label_text counts l =
    if l.selected then hit_line l.name counts (length l.points)
    ++ (points_text counts l.points ++ flat_map skipped_line l.skipped)
    else unselected_line l.name

-- how many counts are a label's own
abbrev pub width : Label → ℕ
width l = if l.selected then length l.points else 0

abbrev pub labels_text : List ℕ → List Label → List ℕ
labels_text counts [] = []
labels_text counts (l ∷ ls) =
    label_text (take (width l) counts) l ++ labels_text (drop (width l) counts) ls

abbrev pub total_line : List ℕ → List ℕ
total_line counts =
    codes "total hit " ++ (decimal (hit_count counts) ++ (codes " of "
    ++ (decimal (length counts) ++ codes "\n")))

-- the counts are those of the selected labels' points in order
abbrev pub report_of : List Label → List ℕ → ℕ → List ℕ
report_of labels counts instructions =
    (codes "instructions " ++ (decimal instructions ++ codes "\n"))
    ++ (labels_text counts labels ++ total_line counts)
