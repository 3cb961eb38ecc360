-- The normal text of groups by its lines, and their words.
use Rattle.std.proofs.Common.{◌≡◌, ℕ, List, [], ◌∷◌, ◌++◌, refl, sym, ap, ◌∙◌}
use Rattle.std.proofs.Common.{append_assoc, Option, Some, None, arith}
use Rattle.std.specs.Prelude.{if◌then◌else◌, map, codes}
use Rattle.std.specs.List.{flat_map}
use Rattle.rvs_yaml_text.specs.Bytes.{feed_byte}
use Rattle.rvs_yaml_text.specs.Printed as yaml
use Rattle.rvs_cgf.specs.Groups.{Point, Skipped, Label}
use Rattle.rvs_points.specs.declared.group.Kind.{Kind}
use Rattle.rvs_points.specs.Kinds.{kind_name}
use Rattle.rvs_cgf.specs.Print.{doubled, point_line, goes_on, head_line, points_text}
use Rattle.rvs_cgf.specs.Print.{skipped_line, label_text, normal_text}
use Rattle.rvs_normal.proofs.Lines.{fed}
use Rattle.rvs_normal.proofs.Rows.{Row, label_row, node_row, point_row, note_row, inner_note_row}
use Rattle.rvs_normal.proofs.Rows.{row_text}

-- ---- lines
abbrev pub head_rows : Option Kind → Kind → List Row
head_rows before k = if goes_on before k then [] else node_row (kind_name k) ∷ []

abbrev pub points_rows : Option Kind → List Point → List Row
points_rows before [] = []
points_rows before (p ∷ ps) =
    head_rows before p.kind ++ (point_row p.key ∷ points_rows (Some p.kind) ps)

abbrev pub skipped_row : Skipped → Row
skipped_row s = inner_note_row (codes " skipped " ++ (s.node ++ (codes " " ++ s.key)))

abbrev pub label_rows : Label → List Row
label_rows l =
    if l.selected then label_row l.name ∷ (points_rows None l.points ++ map skipped_row l.skipped)
    else note_row (codes " unselected " ++ l.name) ∷ []

abbrev pub rows : List Label → List Row
rows [] = []
rows (l ∷ ls) = label_rows l ++ rows ls

abbrev pub texts : List Row → List ℕ
texts rs = fed (map row_text rs)

texts-append : (xs ys : List Row) → texts (xs ++ ys) ≡ texts xs ++ texts ys
texts-append [] ys = refl
texts-append (x ∷ xs) ys = simp (row_text, append_assoc, (texts-append xs ys))

same-doubled : (k : List ℕ) → doubled k ≡ yaml.doubled k
same-doubled [] = refl
same-doubled (c ∷ cs) = grind (arith, (same-doubled cs))

point-text : (k rest : List ℕ) → point_line k ++ rest ≡ row_text (point_row k) ++ (feed_byte ∷ rest)
point-text k rest = simp (same-doubled, append_assoc)

head-text : (before : Option Kind) (k : Kind) → head_line before k ≡ texts (head_rows before k)
head-text before k = grind (arith, append_assoc)

points-text : (before : Option Kind) (ps : List Point)
    → points_text before ps ≡ texts (points_rows before ps)
points-text before [] = refl
points-text before (p ∷ ps) =
    append_assoc (head_line before p.kind) (point_line p.key) (points_text (Some p.kind) ps)
    ∙ ap (λ h. h ++ (point_line p.key ++ points_text (Some p.kind) ps)) (head-text before p.kind)
    ∙ ap (λ r. texts (head_rows before p.kind) ++ r)
    (point-text p.key (points_text (Some p.kind) ps)
    ∙ ap (λ r. row_text (point_row p.key) ++ (feed_byte ∷ r)) (points-text (Some p.kind) ps))
    ∙ sym (texts-append (head_rows before p.kind) (point_row p.key ∷ points_rows (Some p.kind) ps))

skipped-text : (ss : List Skipped) → flat_map skipped_line ss ≡ texts (map skipped_row ss)
skipped-text [] = refl
skipped-text (s ∷ ss) = simp (append_assoc, row_text, (skipped-text ss))

label-text : (l : Label) → label_text l ≡ texts (label_rows l)
label-text l = grind (arith, append_assoc, points-text, skipped-text, texts-append)

pub groups-text : (ls : List Label) → normal_text ls ≡ texts (rows ls)
groups-text [] = refl
groups-text (l ∷ ls) = simp (label-text, texts-append, (groups-text ls))
