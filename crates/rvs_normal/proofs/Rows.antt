-- The lines of printed groups, and their words.
use Rattle.std.proofs.Common.{◌≡◌, ℕ, Bool, true, false, List, [], ◌∷◌, ◌++◌, refl, ap, arith}
use Rattle.std.proofs.Common.{Some, None, rules}
use Rattle.std.specs.Prelude.{◌&&◌, ◌||◌, ◌==◌, nat_le}
use Rattle.std.specs.List.{list_all}
use Rattle.std.proofs.lemmas.Bool.Decides.{nat_tests}
use Rattle.std.proofs.lemmas.Bool.{and_from, and_parts}
use Rattle.rvs_text.specs.Spaces.{without_end}
use Rattle.rvs_yaml_text.specs.Bytes.{space_byte, single_quote_byte, hash_byte, dash_byte, dot_byte}
use Rattle.rvs_yaml_text.specs.Bytes.{colon_byte}
use Rattle.rvs_yaml_text.specs.Word.{nothing, text, key, Word}
use Rattle.rvs_yaml_text.specs.Scalar.{onto, is_blank, key_split, start_fault, key_name}
use Rattle.rvs_yaml_text.specs.Scalar.{quoted_name, is_unsupported_start, is_reserved_start}
use Rattle.rvs_yaml_text.specs.Scalar.{is_indicator_byte}
use Rattle.rvs_yaml_text.specs.Printed.{in_quotes, doubled}
use Rattle.rvs_yaml_text.specs.Text.{word_at, words_at, last_words, line_words, is_mark, key_of}
use Rattle.rvs_yaml_text.specs.Text.{shape_from}
use Rattle.rvs_yaml_text.proofs.Printing.{printed-reads-back}
use Rattle.rvs_points.specs.Keys.{is_printable}
use Rattle.rvs_normal.proofs.Lines.{is_ink, inked-append, inked-utf8}

-- ---- names
abbrev pub is_first : ℕ → Bool
is_first c = (nat_le 48 c && nat_le c 57)
    || ((nat_le 65 c && nat_le c 90) || ((nat_le 97 c && nat_le c 122) || c == 95))

abbrev pub is_next : ℕ → Bool
is_next c = is_first c || (c == 45 || c == 46)

abbrev pub is_plain : List ℕ → Bool
is_plain [] = false
is_plain (c ∷ cs) = is_first c && list_all is_next cs

-- what a byte of a name isn't
record NotMarks (c : ℕ) : Type 0 where
  space : (c == 32) ≡ false
  hash : (c == 35) ≡ false
  colon : (c == 58) ≡ false

not-marks : (c : ℕ) → is_next c ≡ true → NotMarks c
not-marks c h = grind arith

split-name : (spaced : Bool) (cs : List ℕ) → list_all is_next cs ≡ true
    → key_split spaced (cs ++ (colon_byte ∷ [])) ≡ Some (cs, [])
split-name spaced [] h = refl
split-name spaced (c ∷ cs) h =
    let p = and_parts (is_next c) (list_all is_next cs) h in
    let n = not-marks c p.0 in
    rw (n.hash, n.colon, key_split) (ap (onto c) (split-name (c == 32) cs p.1))

pub trimmed-name : (cs : List ℕ) → list_all is_next cs ≡ true → without_end cs ≡ cs
trimmed-name [] h = refl
trimmed-name (c ∷ []) h = rw ((not-marks c (and_parts (is_next c) true h).0).space) refl
trimmed-name (c ∷ d ∷ cs) h = let p = and_parts (is_next c) (list_all is_next (d ∷ cs)) h in
    rw (trimmed-name (d ∷ cs) p.1) refl

-- ---- a name with a colon behind it
record NotStart (c : ℕ) : Type 0 where
  unsupported : is_unsupported_start c ≡ false
  reserved : is_reserved_start c ≡ false
  question : (c == 63) ≡ false
  indicator : is_indicator_byte c ≡ false
  space : (c == 32) ≡ false
  tab : (c == 9) ≡ false
  hash : (c == 35) ≡ false
  dash : (c == 45) ≡ false
  dot : (c == 46) ≡ false
  single : (c == 39) ≡ false
  double : (c == 34) ≡ false
  less : (c == 60) ≡ false

not-start : (c : ℕ) → is_first c ≡ true → NotStart c
not-start c h = search rules

first-next : (c : ℕ) → is_first c ≡ true → is_next c ≡ true
first-next c h = rw h refl

starts-well : (c : ℕ) (cs : List ℕ) → is_first c ≡ true → start_fault (c ∷ cs) ≡ None
starts-well c cs h = grind (arith, not-start)

key-of-name : (c : ℕ) (cs : List ℕ) → is_first c ≡ true → list_all is_next cs ≡ true
    → key_of (c ∷ (cs ++ (colon_byte ∷ []))) ≡ Some (key_name (c ∷ cs), [])
key-of-name c cs h k =
    grind (arith, not-start, and_from, first-next, starts-well, split-name, trimmed-name)

at-last : (line column c : ℕ) (bs : List ℕ) → (c == 32) ≡ false → (c == 45) ≡ false
    → words_at line false column (c ∷ bs) ≡ last_words line false column (c ∷ bs)
at-last line column c bs s d = rw (s, d, words_at) refl

not-blank : (c : ℕ) (bs : List ℕ) → is_first c ≡ true → is_blank true (c ∷ bs) ≡ false
not-blank c bs h = let n = not-start c h in rw (n.hash, n.space, n.tab, is_blank) refl

last-word : (line column c : ℕ) (bs : List ℕ) → is_blank true (c ∷ bs) ≡ false → (c == 9) ≡ false
    → last_words line false column (c ∷ bs)
    ≡ word_at line column (shape_from (c ∷ bs) (key_of (c ∷ bs))) ∷ []
last-word line column c bs b t = rw (b, t, last_words) refl

pub name-word : (line column c : ℕ) (cs : List ℕ) → is_first c ≡ true → list_all is_next cs ≡ true
    → words_at line false column (c ∷ (cs ++ (colon_byte ∷ [])))
    ≡ word_at line column (key (key_name (c ∷ cs)) None nothing) ∷ []
name-word line column c cs h k =
    search (rules, not-start, at-last, last-word, not-blank, key-of-name)

pub merges-nothing : (c : ℕ) (cs : List ℕ) → is_first c ≡ true → (key_name (c ∷ cs)).merges ≡ false
merges-nothing c cs h = let n = not-start c h in rw (n.less) refl

-- ---- keys in quotes
pub quoted-word : (line : ℕ) (k : List ℕ)
    → words_at line false 4 (in_quotes k ++ (colon_byte ∷ space_byte ∷ 48 ∷ []))
    ≡ word_at line 4 (key (quoted_name k) None (text (48 ∷ []))) ∷ []
quoted-word line k = grind (arith, printed-reads-back)

-- ---- lines
pub data Row : Type 0 where
  label_row : List ℕ → Row
  node_row : List ℕ → Row
  point_row : List ℕ → Row
  note_row : List ℕ → Row
  inner_note_row : List ℕ → Row

abbrev pub row_text : Row → List ℕ
row_text (label_row name) = name ++ (colon_byte ∷ [])
row_text (node_row name) = space_byte ∷ space_byte ∷ (name ++ (colon_byte ∷ []))
row_text (point_row k) = space_byte ∷ space_byte ∷ space_byte ∷ space_byte
    ∷ (in_quotes k ++ (colon_byte ∷ space_byte ∷ 48 ∷ []))
row_text (note_row t) = hash_byte ∷ t
row_text (inner_note_row t) = space_byte ∷ space_byte ∷ hash_byte ∷ t

abbrev pub IsRow : Row → Type 0
IsRow (label_row name) = is_plain name ≡ true
IsRow (node_row name) = is_plain name ≡ true
IsRow (point_row k) = is_printable k ≡ true
IsRow (note_row t) = is_printable t ≡ true
IsRow (inner_note_row t) = is_printable t ≡ true

abbrev pub row_words : ℕ → Row → List Word
row_words line (label_row name) = word_at line 0 (key (key_name name) None nothing) ∷ []
row_words line (node_row name) = word_at line 2 (key (key_name name) None nothing) ∷ []
row_words line (point_row k) = word_at line 4 (key (quoted_name k) None (text (48 ∷ []))) ∷ []
row_words line (note_row t) = []
row_words line (inner_note_row t) = []

next-ink : (c : ℕ) → is_next c ≡ true → is_ink c ≡ true
next-ink c h = grind (arith, nat_tests)

name-inked : (cs : List ℕ) → list_all is_next cs ≡ true → is_printable cs ≡ true
name-inked [] h = refl
name-inked (c ∷ cs) h = let p = and_parts (is_next c) (list_all is_next cs) h in
    and_from (is_ink c) (is_printable cs) (next-ink c p.0) (name-inked cs p.1)

pub plain-inked : (name : List ℕ) → is_plain name ≡ true → is_printable name ≡ true
plain-inked name h = search (rules, and_parts, and_from, is_ink, next-ink, first-next, name-inked)

doubled-inked : (k : List ℕ) → is_printable k ≡ true → is_printable (doubled k) ≡ true
doubled-inked [] h = refl
doubled-inked (c ∷ cs) h =
    let p = and_parts (is_ink c) (is_printable cs) h in
    doubled-one c cs (c == single_quote_byte) refl p.0 (doubled-inked cs p.1)
  where
    doubled-one : (c : ℕ) (cs : List ℕ) (b : Bool) → (c == single_quote_byte) ≡ b → is_ink c ≡ true
        → is_printable (doubled cs) ≡ true → is_printable (doubled (c ∷ cs)) ≡ true
    doubled-one c cs true e i r = rw (e, doubled) r
    doubled-one c cs false e i r =
        rw (e, doubled) (and_from (is_ink c) (is_printable (doubled cs)) i r)

pub row-inked : (r : Row) → IsRow r → is_printable (row_text r) ≡ true
row-inked r h = search (rules, inked-append, plain-inked, doubled-inked)

words-of-row : (line : ℕ) (r : Row) → IsRow r
    → words_at line false 0 (row_text r) ≡ row_words line r
words-of-row line (label_row []) h = cc
words-of-row line (label_row (c ∷ cs)) h = grind (arith, and_parts, name-word)
words-of-row line (node_row []) h = cc
words-of-row line (node_row (c ∷ cs)) h = grind (arith, and_parts, name-word)
words-of-row line (point_row k) h = quoted-word line k
words-of-row line (note_row t) h = refl
words-of-row line (inner_note_row t) h = refl

no-mark : (r : Row) → IsRow r → is_mark dash_byte (row_text r) ≡ false
no-mark r h = grind arith

no-dots : (r : Row) → IsRow r → is_mark dot_byte (row_text r) ≡ false
no-dots r h = grind arith

pub line-words : (line : ℕ) (started : Bool) (r : Row) → IsRow r
    → line_words line started (row_text r) ≡ row_words line r
line-words line started r h = grind (arith, inked-utf8, row-inked, no-mark, no-dots, words-of-row)
