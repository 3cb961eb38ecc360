-- Lines of printable characters.
use Rattle.std.proofs.Common.{◌≡◌, ℕ, zero, suc, ◌<◌, Bool, true, false, List, [], ◌∷◌, ◌++◌, ◌-◌}
use Rattle.std.proofs.Common.{length, lit<, refl, ap, ◌∙◌, arith}
use Rattle.std.specs.Prelude.{◌&&◌, ◌==◌, nat_le, slice_index, map}
use Rattle.std.specs.Str.{is_utf8, IsAscii}
use Rattle.std.proofs.lemmas.Bool.Decides.{nat_tests}
use Rattle.std.proofs.lemmas.Bool.{and_from, and_parts}
use Rattle.std.proofs.lemmas.Str.{IsUtf8-from_ascii, is_utf8-from_IsUtf8}
use Rattle.rvs_yaml_text.specs.Bytes.{feed_byte}
use Rattle.rvs_yaml_text.specs.Text.{cut, onto_first, without_return, lines_of}
use Rattle.rvs_points.specs.Keys.{is_printable}

abbrev pub is_ink : ℕ → Bool
is_ink c = nat_le 32 c && nat_le c 126

pub inked-append : (a b : List ℕ) → is_printable a ≡ true → is_printable b ≡ true
    → is_printable (a ++ b) ≡ true
inked-append [] b h k = k
inked-append (x ∷ xs) b h k = let p = and_parts (is_ink x) (is_printable xs) h in
    and_from (is_ink x) (is_printable (xs ++ b)) p.0 (inked-append xs b p.1 k)

ink-low : (c : ℕ) → is_ink c ≡ true → c < 128
ink-low c h = grind (arith, nat_tests)

ink-feed : (c : ℕ) → is_ink c ≡ true → (c == 10) ≡ false
ink-feed c h = grind (arith, nat_tests)

ink-return : (c : ℕ) → is_ink c ≡ true → (c == 13) ≡ false
ink-return c h = grind (arith, nat_tests)

ascii : (l : List ℕ) → is_printable l ≡ true → IsAscii l
ascii [] h i = lit< tt
ascii (c ∷ cs) h zero = ink-low c (and_parts (is_ink c) (is_printable cs) h).0
ascii (c ∷ cs) h (suc i) = ascii cs (and_parts (is_ink c) (is_printable cs) h).1 i

pub inked-utf8 : (l : List ℕ) → is_printable l ≡ true → is_utf8 l ≡ true
inked-utf8 l h = is_utf8-from_IsUtf8 l (IsUtf8-from_ascii l (ascii l h))

no-return : (l : List ℕ) (i : ℕ) → is_printable l ≡ true → (slice_index l i == 13) ≡ false
no-return [] i h = refl
no-return (c ∷ cs) zero h = ink-return c (and_parts (is_ink c) (is_printable cs) h).0
no-return (c ∷ cs) (suc i) h = no-return cs i (and_parts (is_ink c) (is_printable cs) h).1

inked-line : (l : List ℕ) → is_printable l ≡ true → without_return l ≡ l
inked-line l h = rw (no-return l (length l - 1) h) refl

-- ---- lines, each with its line feed
abbrev pub fed : List (List ℕ) → List ℕ
fed [] = []
fed (l ∷ ls) = l ++ (feed_byte ∷ fed ls)

cut-line : (l rest : List ℕ) → is_printable l ≡ true → cut (l ++ (feed_byte ∷ rest)) ≡ l ∷ cut rest
cut-line [] rest h = refl
cut-line (c ∷ cs) rest h =
    let p = and_parts (is_ink c) (is_printable cs) h in
    rw (ink-feed c p.0) (ap (onto_first c) (cut-line cs rest p.1))

abbrev pub AreInked : List (List ℕ) → Type 0
AreInked [] = Unit {0}
AreInked (l ∷ ls) = (is_printable l ≡ true) × AreInked ls

cut-fed : (ls : List (List ℕ)) → AreInked ls → cut (fed ls) ≡ ls ++ ([] ∷ [])
cut-fed [] h = refl
cut-fed (l ∷ ls) h = cut-line l (fed ls) h.0 ∙ ap (λ r. l ∷ r) (cut-fed ls h.1)

kept-lines : (ls : List (List ℕ)) → AreInked ls
    → map without_return (ls ++ ([] ∷ [])) ≡ ls ++ ([] ∷ [])
kept-lines [] h = refl
kept-lines (l ∷ ls) h = rw (inked-line l h.0) (ap (λ r. l ∷ r) (kept-lines ls h.1))

pub lines-fed : (ls : List (List ℕ)) → AreInked ls → lines_of (fed ls) ≡ ls ++ ([] ∷ [])
lines-fed ls h = ap (map without_return) (cut-fed ls h) ∙ kept-lines ls h
