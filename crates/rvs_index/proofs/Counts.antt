-- One instruction more adds to the counts what the log's definition of them says.
use Rattle.std.proofs.Common.{◌≡◌, ℕ, ◌+◌, Bool, false, ◌||◌, List, [], ◌∷◌, ◌++◌}
use Rattle.std.proofs.Common.{Option, refl, sym, ap, ◌∙◌, length, arith, rules}
use Rattle.std.proofs.lemmas.List.{map-append}
use Rattle.std.proofs.lemmas.List.Sums.{sum_by_push}
use Rattle.std.specs.Prelude.{count_by, map}
use Rattle.rvs_points.specs.Points.{Meaning, window}
use Rattle.rvs_points.specs.declared.group.Kind.{Kind}
use Rattle.rvs_cross.specs.Cross.{Place}
use Rattle.rvs_cross.specs.Windows.{matches}
use Rattle.rvs_insn.specs.Fields.{Fields}
use Rattle.rvs_insn.specs.declared.op.Op.{Op}
use Rattle.rvs_log.specs.Entries.{Entry}
use Rattle.rvs_index.specs.Counting.{Aim, count, decoded, hits, hits_insn, window_hits}
use Rattle.rvs_index.specs.Runs.{last, run_of, run_with}
use Rattle.rvs_index.specs.State.{counts_with, ends_run}
use Rattle.rvs_index.proofs.Crossing.{AllSized, IsSized, bit}
use Rattle.rvs_index.proofs.Matching.{decoded_matches, length_matches}
use Rattle.rvs_index.proofs.Sequels.{run_push, run_sees, windows_push}

abbrev aim : List Op → Kind → List ℕ → Meaning → Aim
aim ops k key m = record { ops = ops; point = record { kind = k; key = key; meaning = m } }

-- ---- an instruction alone hits no cross point
or_false : (b : Bool) → (b || false) ≡ b
or_false b = grind arith

pub window_missed : (ops : List Op) (k : Kind) (key : List ℕ) (ps : List Place) (o : Option Fields)
    (v1 v2 : ℕ)
    → hits_insn (aim ops k key (window ps)) o v1 v2 ≡ false
window_missed ops k key ps o v1 v2 = grind arith

or_none : (x : Bool) → bit x + bit false ≡ bit (x || false)
or_none x = grind arith

apart_for : (ops : List Op) (k : Kind) (key : List ℕ) (m : Meaning) (o : Option Fields) (v1 v2 : ℕ)
    (run : List Fields)
    → bit (hits_insn (aim ops k key m) o v1 v2) + bit (ends_run m run)
    ≡ bit (hits_insn (aim ops k key m) o v1 v2 || ends_run m run)
apart_for ops k key m o v1 v2 run = search (rules, or_none, window_missed, bit)

-- no point is hit both ways
pub apart : (o : Option Fields) (v1 v2 : ℕ) (run : List Fields) (a : Aim)
    → bit (hits_insn a o v1 v2) + bit (ends_run a.point.meaning run)
    ≡ bit (hits_insn a o v1 v2 || ends_run a.point.meaning run)
apart o v1 v2 run a = apart_for a.ops a.point.kind a.point.key a.point.meaning o v1 v2 run

-- ---- one instruction more
insn_push : (a : Aim) (es : List Entry) (e : Entry)
    → count_by (hits a) es + bit (hits a e || false) ≡ count_by (hits a) (es ++ e ∷ [])
insn_push a es e = simp (bit, or_false, sum_by_push)

decoded_push : (es : List Entry) (e : Entry)
    → map decoded (es ++ e ∷ []) ≡ map decoded es ++ decoded e ∷ []
decoded_push es e = map-append decoded es (e ∷ [])

-- a run goes on
pub run_more : (es : List Entry) (e : Entry)
    → run_with (run_of (map decoded es)) (decoded e) ≡ run_of (map decoded (es ++ e ∷ []))
run_more es e = simp (run_push, decoded_push)

window_push : (ps : List Place) (es : List Entry) (e : Entry) → IsSized (window ps)
    → window_hits ps (map decoded es)
    + bit (ends_run (window ps) (run_with (run_of (map decoded es)) (decoded e)))
    ≡ window_hits ps (map decoded (es ++ e ∷ []))
window_push ps es e sized =
    let ds = map decoded es in
    let seen : matches ps (last (length ps) (ds ++ decoded e ∷ []))
    ≡ ends_run (window ps) (run_of (ds ++ decoded e ∷ [])) =
    run_sees (length ps) (λ is. matches ps is) sized.1 (length_matches ps) (decoded_matches ps)
    (ds ++ decoded e ∷ []) in
    ap (λ run. window_hits ps ds + bit (ends_run (window ps) run)) (run_push ds (decoded e))
    ∙ ap (λ b. window_hits ps ds + bit b) (sym seen)
    ∙ sym (windows_push (length ps) (λ is. matches ps is) (length_matches ps) ds (decoded e))
    ∙ ap (λ ds. window_hits ps ds) (sym (decoded_push es e))

count_for_push : (ops : List Op) (k : Kind) (key : List ℕ) (m : Meaning) (es : List Entry)
    (e : Entry)
    → IsSized m
    → count es (aim ops k key m)
    + bit (hits (aim ops k key m) e || ends_run m (run_with (run_of (map decoded es)) (decoded e)))
    ≡ count (es ++ e ∷ []) (aim ops k key m)
count_for_push ops k key m es e sized = search (rules, insn_push, bit, window_missed, window_push)

count_push : (a : Aim) (es : List Entry) (e : Entry) → IsSized a.point.meaning
    → count es a
    + bit (hits a e || ends_run a.point.meaning (run_with (run_of (map decoded es)) (decoded e)))
    ≡ count (es ++ e ∷ []) a
count_push a es e sized = search (rules, count_for_push)

pub counts_snoc : (aims : List Aim) → AllSized aims → (es : List Entry) (e : Entry)
    → counts_with aims (run_with (run_of (map decoded es)) (decoded e)) e (map (count es) aims)
    ≡ map (count (es ++ e ∷ [])) aims
counts_snoc [] sized es e = refl
counts_snoc (a ∷ aims) sized es e = grind (arith, count_push, (counts_snoc aims sized.1 es e))

-- ---- before the first
count_none : (ops : List Op) (k : Kind) (key : List ℕ) (m : Meaning)
    → 0 ≡ count [] (aim ops k key m)
count_none ops k key m = grind arith

pub none_counted : (a : Aim) → 0 ≡ count [] a
none_counted a = count_none a.ops a.point.kind a.point.key a.point.meaning
