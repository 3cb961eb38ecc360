-- Words by their columns and shapes, on any lines.
use Rattle.std.proofs.Common.{◌≡◌, ℕ, Bool, true, false, List, [], ◌∷◌, ◌++◌, refl, ap, ◌∙◌, arith}
use Rattle.std.proofs.Common.{None, rules}
use Rattle.std.specs.Prelude.{◌&&◌, ◌||◌, ◌==◌, nat_lt}
use Rattle.std.proofs.lemmas.Bool.Decides.{nat_tests}
use Rattle.rvs_yaml_text.specs.Word.{Shape, key, nothing, text, Word, head_of}
use Rattle.rvs_yaml_text.specs.Scalar.{key_name, quoted_name}
use Rattle.rvs_yaml_text.specs.Text.{word_at}
use Rattle.rvs_yaml.specs.Block.{end, below, outline}
use Rattle.rvs_normal.proofs.Outlines.{Stops, AllStop, AllBelow, section}

abbrev pub Col : Type 0
Col = ℕ × Shape

abbrev pub first : List ℕ → ℕ
first [] = 0
first (n ∷ ns) = n

abbrev pub others : List ℕ → List ℕ
others [] = []
others (n ∷ ns) = ns

-- words with these columns and shapes, on these lines
abbrev pub words : List ℕ → List Col → List Word
words ns [] = []
words ns (c ∷ cs) = word_at (first ns) c.0 c.1 ∷ words (others ns) cs

-- the lines that are left
abbrev pub behind : List Col → List ℕ → List ℕ
behind [] ns = ns
behind (c ∷ cs) ns = behind cs (others ns)

pub words-append : (ns : List ℕ) (xs ys : List Col)
    → words ns (xs ++ ys) ≡ words ns xs ++ words (behind xs ns) ys
words-append ns [] ys = refl
words-append ns (x ∷ xs) ys = simp (words-append (others ns) xs ys)

-- ---- parts: a key with nothing behind it, and the words below it
pub record Part : Type 0 where
  pub name : List ℕ
  pub inner : List Col

abbrev pub opener : ℕ → List ℕ → Col
opener c name = (c, key (key_name name) None nothing)

abbrev pub parts_cols : ℕ → List Part → List Col
parts_cols c [] = []
parts_cols c (p ∷ ps) = opener c p.name ∷ (p.inner ++ parts_cols c ps)

abbrev pub IsDeeper : ℕ → List Col → Type 0
IsDeeper c [] = Unit {0}
IsDeeper c (x ∷ xs) = (nat_lt c x.0 ≡ true) × IsDeeper c xs

deeper-below : (l c : ℕ) (name : List ℕ) (ns : List ℕ) (xs : List Col) → IsDeeper c xs
    → AllBelow (head_of (word_at l c (opener c name).1)) (words ns xs)
deeper-below l c name ns [] d = tt
deeper-below l c name ns (x ∷ xs) d = (rw (d.0) refl, deeper-below l c name (others ns) xs d.1)

not-lt : (a b : ℕ) → nat_lt a b ≡ true → nat_lt b a ≡ false
not-lt a b h = grind (arith, nat_tests)

no-dash : (p q r : Bool) → p ≡ false → (p || (q && false && r)) ≡ false
no-dash p q r e = grind arith

stops-deeper : (l c : ℕ) (x : Col) (ns : List ℕ) (ps : List Part) → nat_lt c x.0 ≡ true
    → Stops (head_of (word_at l x.0 x.1)) (outline (words ns (parts_cols c ps)))
stops-deeper l c x ns [] d = tt
stops-deeper l c x ns (p ∷ ps) d = simp (no-dash, not-lt)

all-stop : (c : ℕ) (ms ns : List ℕ) (xs : List Col) (ps : List Part) → IsDeeper c xs
    → AllStop (words ms xs) (outline (words ns (parts_cols c ps)))
all-stop c ms ns [] ps d = tt
all-stop c ms ns (x ∷ xs) ps d = search (rules, stops-deeper, (all-stop c (others ms) ns xs ps d.1))

same-column : (c : ℕ) → nat_lt c c ≡ false
same-column c = grind (arith, nat_tests)

stops-next : (l c : ℕ) (name : List ℕ) (ns : List ℕ) (ps : List Part)
    → Stops (head_of (word_at l c (opener c name).1)) (outline (words ns (parts_cols c ps)))
stops-next l c name ns [] = tt
stops-next l c name ns (p ∷ ps) = no-dash (nat_lt c c) true (c == c) (same-column c)

pub outline-parts : (c : ℕ) (ns : List ℕ) (p : Part) (ps : List Part) → IsDeeper c p.inner
    → outline (words ns (parts_cols c (p ∷ ps))) ≡ below
    (word_at (first ns) c (key (key_name p.name) None nothing))
    (outline (words (others ns) p.inner))
    (outline (words (behind p.inner (others ns)) (parts_cols c ps)))
outline-parts c ns p ps d =
    ap (λ ws. outline (word_at (first ns) c (key (key_name p.name) None nothing) ∷ ws))
    (words-append (others ns) p.inner (parts_cols c ps))
    ∙ section (word_at (first ns) c (key (key_name p.name) None nothing))
    (words (others ns) p.inner) (words (behind p.inner (others ns)) (parts_cols c ps))
    (deeper-below (first ns) c p.name (others ns) p.inner d)
    (stops-next (first ns) c p.name (behind p.inner (others ns)) ps)
    (all-stop c (others ns) (behind p.inner (others ns)) p.inner ps d)

-- ---- keys with a text behind them
abbrev pub point_col : ℕ → List ℕ → List ℕ → Col
point_col c t k = (c, key (quoted_name k) None (text t))

abbrev pub points_cols : ℕ → List ℕ → List (List ℕ) → List Col
points_cols c t [] = []
points_cols c t (k ∷ ks) = point_col c t k ∷ points_cols c t ks

stops-point : (l c : ℕ) (t k : List ℕ) (ns : List ℕ) (ks : List (List ℕ))
    → Stops (head_of (word_at l c (point_col c t k).1)) (outline (words ns (points_cols c t ks)))
stops-point l c t k ns [] = tt
stops-point l c t k ns (m ∷ ks) = no-dash (nat_lt c c) false (c == c) (same-column c)

pub outline-points : (c : ℕ) (t : List ℕ) (ns : List ℕ) (k : List ℕ) (ks : List (List ℕ))
    → outline (words ns (points_cols c t (k ∷ ks))) ≡ below
    (word_at (first ns) c (key (quoted_name k) None (text t))) end
    (outline (words (others ns) (points_cols c t ks)))
outline-points c t ns k ks = section (word_at (first ns) c (key (quoted_name k) None (text t))) []
    (words (others ns) (points_cols c t ks)) tt (stops-point (first ns) c t k (others ns) ks) tt
