-- Runs are followed where some point is a cross point, and what they are elsewhere adds nothing.
use Rattle.std.proofs.Common.{◌≡◌, ℕ, zero, suc, ◌+◌, ◌≤◌, Bool, true, false, cond, ◌||◌, List, []}
use Rattle.std.proofs.Common.{◌∷◌, ◌++◌, Option, refl, sym, ap, ◌∙◌, length, arith, not}
use Rattle.std.proofs.lemmas.Bool.Decides.{nat_tests}
use Rattle.std.proofs.lemmas.Bool.{or_parts, or_from}
use Rattle.std.specs.Prelude.{◌==◌, map}
use Rattle.rvs_points.specs.Points.{Meaning, op_is, reg_is, regs, nums, window}
use Rattle.rvs_points.specs.declared.group.Label.{Label}
use Rattle.rvs_insn.specs.Fields.{Fields}
use Rattle.rvs_log.specs.Entries.{Entry}
use Rattle.rvs_index.specs.Counting.{Aim, aims_in, count, decoded, hits}
use Rattle.rvs_index.specs.Index.{has_places, lengths_to}
use Rattle.rvs_index.specs.Runs.{run_of, run_with}
use Rattle.rvs_index.specs.State.{added, counts_with, ends_run, followed, any_cross, is_cross}
use Rattle.rvs_index.proofs.Absent.{any_has, listed, noted}
use Rattle.rvs_index.proofs.Counts.{counts_snoc}
use Rattle.rvs_index.proofs.Crossing.{AllSized, IsSized, aims_sized}
use Rattle.rvs_index.proofs.Lengths.{none_there}

-- ---- without cross points
no_end : (m : Meaning) (run : List Fields) → is_cross m ≡ false → ends_run m run ≡ false
no_end m run h = grind arith

or_none : (a b : Bool) → b ≡ false → a ≡ (a || b)
or_none a b h = grind arith

-- the end of a run adds nothing
pub no_ends_too : (passes : Aim → Bool) (run : List Fields) (aims : List Aim) (cs : List ℕ)
    → any_cross aims ≡ false
    → added passes aims cs ≡ added (λ a. passes a || ends_run a.point.meaning run) aims cs
no_ends_too passes run [] cs h = refl
no_ends_too passes run (a ∷ aims) [] h = refl
no_ends_too passes run (a ∷ aims) (c ∷ cs) h =
    let two = or_parts (is_cross a.point.meaning) (any_cross aims) h in
    ap (λ b. (c + cond b 1 0) ∷ added passes aims cs)
    (or_none (passes a) (ends_run a.point.meaning run) (no_end a.point.meaning run two.0))
    ∙ ap (λ l. (c + cond (passes a || ends_run a.point.meaning run) 1 0) ∷ l)
    (no_ends_too passes run aims cs two.1)

-- nor by itself
pub no_ends : (run : List Fields) (aims : List Aim) (cs : List ℕ) → any_cross aims ≡ false
    → length cs ≡ length aims
    → cs ≡ added (λ a. ends_run a.point.meaning run) aims cs
no_ends run [] cs h l = refl
no_ends run (a ∷ aims) [] h l = absurd (omega (arith, l))
no_ends run (a ∷ aims) (c ∷ cs) h l =
    let two = or_parts (is_cross a.point.meaning) (any_cross aims) h in
    let z : c ≡ c + 0 = omega arith in
    ap (λ n. n ∷ cs) z
    ∙ ap (λ b. (c + cond b 1 0) ∷ cs) (sym (no_end a.point.meaning run two.0))
    ∙ ap (λ l. (c + cond (ends_run a.point.meaning run) 1 0) ∷ l)
    (no_ends run aims cs two.1 (omega (arith, l)))

-- ---- what is followed
pub followed_nil : (labels : List Label) → followed labels [] ≡ []
followed_nil labels = grind arith

pub followed_all : (labels : List Label) (run : List Fields) → any_cross (aims_in labels) ≡ true
    → followed labels run ≡ run
followed_all labels run h = ap (λ b. cond b run []) h

pub followed_none : (labels : List Label) (run : List Fields) → any_cross (aims_in labels) ≡ false
    → followed labels run ≡ []
followed_none labels run h = ap (λ b. cond b run []) h

pub followed_again : (labels : List Label) (run : List Fields) (o : Option Fields)
    → followed labels (run_with (followed labels run) o) ≡ followed labels (run_with run o)
followed_again labels run o = grind arith

-- counts after one more instruction
pub counts_followed : (labels : List Label) (es : List Entry) (e : Entry)
    → counts_with (aims_in labels)
    (run_with (followed labels (run_of (map decoded es))) (decoded e)) e
    (map (count es) (aims_in labels))
    ≡ map (count (es ++ e ∷ [])) (aims_in labels)
counts_followed labels es e = turn (any_cross (aims_in labels)) refl
    ∙ counts_snoc (aims_in labels) (aims_sized labels) es e
  where
    run : List Fields
    run = run_of (map decoded es)

    turn : (b : Bool) → any_cross (aims_in labels) ≡ b
        → counts_with (aims_in labels) (run_with (followed labels run) (decoded e)) e
        (map (count es) (aims_in labels))
        ≡ counts_with (aims_in labels) (run_with run (decoded e)) e
        (map (count es) (aims_in labels))
    turn true h =
        ap (λ r. counts_with (aims_in labels) (run_with r (decoded e)) e
        (map (count es) (aims_in labels))) (followed_all labels run h)
    turn false h =
        sym (no_ends_too (λ a. hits a e) (run_with (followed labels run) (decoded e))
        (aims_in labels) (map (count es) (aims_in labels)) h)
        ∙ no_ends_too (λ a. hits a e) (run_with run (decoded e)) (aims_in labels)
        (map (count es) (aims_in labels)) h

-- ---- the numbers of places that there are
no_places : (k : ℕ) (m : Meaning) → is_cross m ≡ false → has_places k m ≡ false
no_places k m h = grind arith

none_has : (k : ℕ) (aims : List Aim) → any_cross aims ≡ false → any_has k aims ≡ false
none_has k [] h = refl
none_has k (a ∷ aims) h =
    let two = or_parts (is_cross a.point.meaning) (any_cross aims) h in
    or_from (has_places k a.point.meaning) (any_has k aims)
    (no_places k a.point.meaning two.0) (none_has k aims two.1)

no_lengths : (aims : List Aim) (n : ℕ) → any_cross aims ≡ false → lengths_to aims n ≡ []
no_lengths aims zero h = refl
no_lengths aims (suc n) h = simp (any_has, none_has, (no_lengths aims n h))

-- where there is none, no point is a cross point
none_cross : (aims : List Aim) → AllSized aims
    → ((k : ℕ) → 1 ≤ k → k ≤ 6 → any_has k aims ≡ false) → any_cross aims ≡ false
none_cross [] sized none = refl
none_cross (a ∷ aims) sized none =
    or_from (is_cross a.point.meaning) (any_cross aims) (single a.point.meaning sized.0
    (λ k l h. (or_parts (has_places k a.point.meaning) (any_has k aims) (none k l h)).0))
    (none_cross aims sized.1
    (λ k l h. (or_parts (has_places k a.point.meaning) (any_has k aims) (none k l h)).1))
  where
    same : (n : ℕ) → (n == n) ≡ true
    same n = grind (arith, nat_tests)

    single : (m : Meaning) → IsSized m
        → ((k : ℕ) → 1 ≤ k → k ≤ 6 → has_places k m ≡ false) → is_cross m ≡ false
    single (op_is op) s h = refl
    single (reg_is r) s h = refl
    single (regs f) s h = refl
    single (nums f) s h = refl
    single (window ps) s h =
        let there : (length ps == length ps) ≡ true = same (length ps) in
        sym there ∙ h (length ps) s.0 s.1

pub any_lengths : (labels : List Label)
    → not (length (lengths_to (aims_in labels) 6) == 0) ≡ any_cross (aims_in labels)
any_lengths labels = turn (any_cross (aims_in labels)) refl (length ns == 0) refl
  where
    aims : List Aim
    aims = aims_in labels

    ns : List ℕ
    ns = lengths_to (aims_in labels) 6

    absent : ns ≡ [] → (k : ℕ) → 1 ≤ k → k ≤ 6 → (b : Bool) → any_has k (aims_in labels) ≡ b
        → any_has k (aims_in labels) ≡ false
    absent e k l h false is = is
    absent e k l h true is =
        let there : listed k ns ≡ true = noted (aims_in labels) k 6 (omega (arith, l)) h is in
        let gone : listed k ns ≡ false = ap (listed k) e in
        absurd cc

    turn : (b : Bool) → any_cross (aims_in labels) ≡ b → (t : Bool) → (length ns == 0) ≡ t
        → not (length ns == 0) ≡ any_cross (aims_in labels)
    turn false h t e =
        ap (λ l. not (length l == 0)) (no_lengths (aims_in labels) 6 h) ∙ sym h
    turn true h false e = ap not e ∙ sym h
    turn true h true e =
        let empty : ns ≡ [] = none_there ns e in
        let none : any_cross (aims_in labels) ≡ false =
        none_cross (aims_in labels) (aims_sized labels)
        (λ k l m. absent empty k l m (any_has k (aims_in labels)) refl) in
        absurd cc
