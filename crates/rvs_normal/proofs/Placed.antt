-- The words of printed groups are those of parts in parts.
use Rattle.std.proofs.lemmas.Bool.Decides.{nat_tests}
use Rattle.std.proofs.Common.{◌≡◌, ℕ, suc, Bool, true, false, List, [], ◌∷◌, ◌++◌, refl, ap}
use Rattle.std.proofs.Common.{◌∙◌, append_assoc, append-nil, Option, Some, None, arith}
use Rattle.std.specs.Prelude.{if◌then◌else◌, map, filter, codes}
use Rattle.rvs_yaml_text.specs.Word.{Word}
use Rattle.rvs_yaml_text.specs.Text.{line_words}
use Rattle.rvs_cgf.specs.Groups.{Point, Skipped, Label}
use Rattle.rvs_points.specs.declared.group.Kind.{Kind}
use Rattle.rvs_points.specs.Kinds.{kind_name}
use Rattle.rvs_cgf.specs.Print.{goes_on}
use Rattle.rvs_cgf.specs.Spelled.{Block, blocks, selected}
use Rattle.rvs_normal.proofs.Lines.{inked-utf8}
use Rattle.rvs_normal.proofs.Rows.{Row, label_row, node_row, point_row, note_row, inner_note_row}
use Rattle.rvs_normal.proofs.Rows.{IsRow, row_words}
use Rattle.rvs_normal.proofs.Columns.{Col, words, Part, opener, parts_cols, point_col, points_cols}
use Rattle.rvs_normal.proofs.Printed.{points_rows, skipped_row, label_rows, rows}

abbrev pub AreRows : List Row → Type 0
AreRows [] = Unit {0}
AreRows (r ∷ rs) = IsRow r × AreRows rs

abbrev pub rows_words : ℕ → List Row → List Word
rows_words n [] = []
rows_words n (r ∷ rs) = row_words n r ++ rows_words (suc n) rs

pub no-words : (n : ℕ) (started : Bool) → line_words n started [] ≡ []
no-words n started = rw (inked-utf8 [] refl, line_words) refl

-- ---- columns
abbrev pub row_cols : Row → List Col
row_cols (label_row name) = opener 0 name ∷ []
row_cols (node_row name) = opener 2 name ∷ []
row_cols (point_row k) = point_col 4 (codes "0") k ∷ []
row_cols _ = []

abbrev pub cols : List Row → List Col
cols [] = []
cols (r ∷ rs) = row_cols r ++ cols rs

-- the lines of rows with words
abbrev pub row_lines : ℕ → Row → List ℕ
row_lines n (label_row name) = n ∷ []
row_lines n (node_row name) = n ∷ []
row_lines n (point_row k) = n ∷ []
row_lines n _ = []

abbrev pub lines : ℕ → List Row → List ℕ
lines n [] = []
lines n (r ∷ rs) = row_lines n r ++ lines (suc n) rs

pub words-by-columns : (n : ℕ) (rs : List Row) → rows_words n rs ≡ words (lines n rs) (cols rs)
words-by-columns n [] = refl
words-by-columns n (label_row name ∷ rs) = grind (arith, nat_tests, (words-by-columns (suc n) rs))
words-by-columns n (node_row name ∷ rs) = simp (row_words, node_row, (words-by-columns (suc n) rs))
words-by-columns n (point_row k ∷ rs) = simp (row_words, point_row, (words-by-columns (suc n) rs))
words-by-columns n (note_row t ∷ rs) = words-by-columns (suc n) rs
words-by-columns n (inner_note_row t ∷ rs) = words-by-columns (suc n) rs

cols-append : (xs ys : List Row) → cols (xs ++ ys) ≡ cols xs ++ cols ys
cols-append [] ys = refl
cols-append (x ∷ xs) ys = simp (append_assoc, (cols-append xs ys))

-- ---- parts
abbrev pub keys : List Point → List (List ℕ)
keys ps = map (λ p. p.key) ps

abbrev pub node_part : Block → Part
node_part b = record { name = kind_name b.kind; inner = points_cols 4 (codes "0") (keys b.points) }

abbrev pub label_part : Label → Part
label_part l = record { name = l.name; inner = parts_cols 2 (map node_part (blocks l.points)) }

-- the columns of blocks behind a point of a kind
abbrev pub head_cols : Option Kind → Kind → List Col
head_cols before k = if goes_on before k then [] else opener 2 (kind_name k) ∷ []

abbrev pub cols_behind : Option Kind → List Block → List Col
cols_behind before [] = []
cols_behind before (b ∷ bs) = head_cols before b.kind
    ++ (points_cols 4 (codes "0") (keys b.points) ++ parts_cols 2 (map node_part bs))

whole : (bs : List Block) → cols_behind None bs ≡ parts_cols 2 (map node_part bs)
whole bs = grind arith

points-cols : (before : Option Kind) (ps : List Point)
    → cols (points_rows before ps) ≡ cols_behind before (blocks ps)
points-cols before [] = refl
points-cols before (p ∷ ps) = grind (arith, nat_tests, (points-cols (Some p.kind) ps))

skipped-cols : (ss : List Skipped) → cols (map skipped_row ss) ≡ []
skipped-cols [] = refl
skipped-cols (s ∷ ss) = skipped-cols ss

label-cols : (l : Label) → l.selected ≡ true
    → cols (label_rows l) ≡ opener 0 l.name ∷ (label_part l).inner
label-cols l e = rw (e, label_rows)
    (ap (λ cs. opener 0 l.name ∷ cs)
    (cols-append (points_rows None l.points) (map skipped_row l.skipped)
    ∙ ap (λ cs. cols (points_rows None l.points) ++ cs) (skipped-cols l.skipped)
    ∙ append-nil (cols (points_rows None l.points))
    ∙ points-cols None l.points ∙ whole (blocks l.points)))

passed-over : (l : Label) → l.selected ≡ false → cols (label_rows l) ≡ []
passed-over l e = rw (e, label_rows) refl

pub groups-cols : (ls : List Label) → cols (rows ls) ≡ parts_cols 0 (map label_part (selected ls))
groups-cols [] = refl
groups-cols (l ∷ ls) = cols-append (label_rows l) (rows ls)
    ∙ ap (λ cs. cols (label_rows l) ++ cs) (groups-cols ls) ∙ by-case l.selected refl
  where
    by-case : (s : Bool) → l.selected ≡ s
        → cols (label_rows l) ++ parts_cols 0 (map label_part (selected ls))
        ≡ parts_cols 0 (map label_part (selected (l ∷ ls)))
    by-case true e = ap (λ cs. cs ++ parts_cols 0 (map label_part (selected ls))) (label-cols l e)
        ∙ rw (e, selected, filter) refl
    by-case false e = ap (λ cs. cs ++ parts_cols 0 (map label_part (selected ls))) (passed-over l e)
        ∙ rw (e, selected, filter) refl
