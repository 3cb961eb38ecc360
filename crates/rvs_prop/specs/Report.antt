-- The report of which hits of a log reached the signature.
use Rattle.std.specs.Prelude.{ℕ, ◌+◌, Bool, true, false, if◌then◌else◌, List, [], ◌∷◌, ◌++◌}
use Rattle.std.specs.Prelude.{take, drop, codes}
use Rattle.std.specs.List.{flat_map}
use Rattle.std.specs.Fmt.{decimal}
use Rattle.rvs_points.specs.Points.{Label, Meaning, Point, window}
use Rattle.rvs_points.specs.Kinds.{kind_name}
use Rattle.rvs_count.specs.Report.{hit_count, skipped_line, unselected_line, width}

-- a point is measured, unless it is a cross point
abbrev pub is_measured : Meaning → Bool
is_measured (window ps) = false
is_measured _ = true

-- the kind and the key of a point
abbrev pub named : Point → List ℕ
named p = kind_name p.kind ++ (codes " " ++ (p.key ++ codes "\n"))

abbrev pub measured_line : ℕ → ℕ → Point → List ℕ
measured_line reached hits p =
    decimal reached ++ (codes " of " ++ (decimal hits ++ (codes " " ++ named p)))

abbrev pub unmeasured_line : Point → List ℕ
unmeasured_line p = codes "unmeasured " ++ named p

-- a point: how many of its hits reached the signature, and how many there were
abbrev pub point_line : ℕ → ℕ → Point → List ℕ
point_line reached hits p =
    if is_measured p.meaning then measured_line reached hits p else unmeasured_line p

abbrev pub points_text : List ℕ → List ℕ → List Point → List ℕ
points_text (r ∷ rs) (h ∷ hs) (p ∷ ps) = point_line r h p ++ points_text rs hs ps
points_text _ _ _ = []

-- how many points are measured
abbrev pub one_measured : Point → ℕ
one_measured p = if is_measured p.meaning then 1 else 0

abbrev pub measured : List Point → ℕ
measured [] = 0
measured (p ∷ ps) = one_measured p + measured ps

-- how many of how many points have a hit that reached the signature
abbrev pub sum_text : ℕ → ℕ → List ℕ
sum_text hit points =
    codes "reached " ++ (decimal hit ++ (codes " of " ++ (decimal points ++ codes "\n")))

abbrev pub reached_line : List ℕ → List ℕ → ℕ → List ℕ
reached_line name reached points =
    codes "label " ++ (name ++ (codes " " ++ sum_text (hit_count reached) points))

-- a label with its own numbers
abbrev pub label_text : List ℕ → List ℕ → Label → List ℕ
label_text reached hits l =
    if l.selected then reached_line l.name reached (measured l.points)
    ++ (points_text reached hits l.points ++ flat_map skipped_line l.skipped)
    else unselected_line l.name

abbrev pub labels_text : List ℕ → List ℕ → List Label → List ℕ
labels_text reached hits [] = []
labels_text reached hits (l ∷ ls) =
    label_text (take (width l) reached) (take (width l) hits) l
    ++ labels_text (drop (width l) reached) (drop (width l) hits) ls

-- those of the labels that are selected
abbrev pub label_measured : Label → ℕ
label_measured l = if l.selected then measured l.points else 0

abbrev pub all_measured : List Label → ℕ
all_measured [] = 0
all_measured (l ∷ ls) = label_measured l + all_measured ls

abbrev pub total_line : List ℕ → ℕ → List ℕ
total_line reached points = codes "total " ++ sum_text (hit_count reached) points

-- the numbers are those of the selected labels' points in order
abbrev pub report_of : List Label → List ℕ → List ℕ → ℕ → List ℕ
report_of labels reached hits instructions =
    (codes "instructions " ++ (decimal instructions ++ codes "\n"))
    ++ (labels_text reached hits labels ++ total_line reached (all_measured labels))
