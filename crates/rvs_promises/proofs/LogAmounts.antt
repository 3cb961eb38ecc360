-- How many instructions a log has at most, and how often they hit a point.
use Rattle.std.proofs.Common.{◌≡◌, ◌≤◌, ◌+◌, ℕ, ◌==◌, Bool, true, false, List, [], ◌∷◌, ◌++◌}
use Rattle.std.proofs.Common.{length, refl, arith, length-append, rules}
use Rattle.std.proofs.lemmas.List.{length-map}
use Rattle.std.proofs.lemmas.List.Sums.{count_by-le-length, length-filter}
use Rattle.rvs_log.specs.Grammar.{Reading, Says, Writes, Nothing}
use Rattle.rvs_log.specs.Lines.{whole_from, tail_from, last_line}
use Rattle.rvs_log.specs.Entries.{Entry, Heard, hear, entries_in, entries_of}
use Rattle.rvs_cgf.specs.Groups.{Meaning}
use Rattle.rvs_index.specs.Counting.{Aim, count, count_for, kept}
use Rattle.rvs_index.specs.Runs.{suffixes}
use Rattle.rvs_base.specs.declared.asked.Window.{Window}

last-few : (front : List ℕ) → length (last_line front) ≤ length front
last-few front = grind arith

-- how many lines there are from here on
abbrev lines-from : List ℕ → List ℕ → ℕ
lines-from front bs = length (whole_from front bs) + length (last_line (tail_from front bs))

abbrev lines-by : Bool → List ℕ → ℕ → List ℕ → ℕ
lines-by t front b bs =
    length {A = List ℕ}
    (elim t [ true ↦ front ∷ whole_from [] bs | false ↦ whole_from (front ++ b ∷ []) bs ])
    + length {A = List ℕ} (last_line
    (elim t [ true ↦ tail_from [] bs | false ↦ tail_from (front ++ b ∷ []) bs ]))

byte-few : (t : Bool) (front : List ℕ) (b : ℕ) (bs : List ℕ)
    → lines-from [] bs ≤ 0 + length bs
    → lines-from (front ++ b ∷ []) bs ≤ length (front ++ b ∷ []) + length bs
    → lines-by t front b bs ≤ length front + (1 + length bs)
byte-few t front b bs anew on = search (rules, length-append)

lines-few : (front bs : List ℕ) → lines-from front bs ≤ length front + length bs
lines-few front [] = omega (arith, last-few front)
lines-few front (b ∷ bs) =
    omega (
      arith,
      byte-few (b == 10) front b bs (lines-few [] bs) (lines-few (front ++ b ∷ []) bs),
    )

entries-few : (h : Heard) (rs : List Reading) → length (entries_in h rs) ≤ length rs
entries-few h [] = omega arith
entries-few h (Says pc word w ∷ rs) = omega (arith, entries-few (hear h (Says pc word w)) rs)
entries-few h (Writes w ∷ rs) = omega (arith, entries-few (hear h (Writes w)) rs)
entries-few h (Nothing ∷ rs) = omega (arith, entries-few (hear h Nothing) rs)

-- an instruction has a byte of its own
pub log-few : (bytes : List ℕ) → length (entries_of bytes) ≤ length bytes
log-few bytes = grind (arith, entries-few, length-map, length-append, lines-few)

pub kept-few : (windows : List Window) (es : List Entry)
    → length (kept windows es) ≤ length es
kept-few windows es = grind (arith, length-filter, count_by-le-length)

suffixes-length : {X : Type 0} (xs : List X) → length (suffixes xs) ≡ length xs
suffixes-length [] = refl
suffixes-length (x ∷ xs) = omega (arith, suffixes-length xs)

count-by : (m : Meaning) (es : List Entry) (a : Aim) → count_for m es a ≤ length es
count-by m es a = search (rules, count_by-le-length, suffixes-length, length-map)

pub count-few : (es : List Entry) (a : Aim) → count es a ≤ length es
count-few es a = count-by a.point.meaning es a
