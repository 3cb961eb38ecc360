-- The report on a log of two instructions, of which the second stores the first one's result.
use Rattle.std.proofs.Common.{◌≡◌, ℕ, true, false, List, [], ◌∷◌, map, length}
use Rattle.std.proofs.Common.{IsTrue, refl, sym, ap, ◌∙◌, arith}
use Rattle.std.specs.Prelude.{◌==◌}
use Rattle.rvs_log.specs.Entries.{Entry, entries_of}
use Rattle.rvs_cgf.specs.Groups.{Meaning, Label, Point}
use Rattle.rvs_index.specs.Counting.{Aim, aims_of, hits}
use Rattle.rvs_prop.specs.Acts.{Act, acts_of}
use Rattle.rvs_prop.specs.Reach.{reached, reaches, saves_register, target_of}
use Rattle.rvs_prop.specs.Report.{report_of}
use Rattle.rvs_prop.specs.State.{hit_count, hits_for}
use Rattle.rvs_prop.proofs.Listing.{acts_are_entries}
use Rattle.rvs_prop.proofs.Stored.{reaches_next}
use Rattle.rvs_promises.specs.Propagating.{IsFirst}
use Rattle.rvs_promises.proofs.OneCount.{one-aim}

-- the number of hits, by the point's meaning
hits-first : (m : Meaning) (a : Aim) (e f : Entry) → a.point.meaning ≡ m → hits a e ≡ true
    → hits a f ≡ false → hits_for m (e ∷ f ∷ []) a ≡ 1
hits-first m a e f is hit miss = grind arith

reached-first : (lo hi : ℕ) (a : Aim) (hit store : Act) → hits a hit.entry ≡ true
    → hits a store.entry ≡ false → reaches lo hi hit.entry (store ∷ []) ≡ true
    → reached lo hi (hit ∷ store ∷ []) a ≡ 1
reached-first lo hi a hit store is miss later = grind arith

-- what the report says of these instructions and these points
abbrev report-on : ℕ → ℕ → Label → List Act → List Entry → List Aim → List ℕ
report-on lo hi l acts entries aims = report_of (l ∷ []) (map (reached lo hi acts) aims)
    (map (hit_count entries) aims) (length entries)

pub one-reached : (lo hi : ℕ) (l : Label) (p : Point) (hit store : Act) (bytes : List ℕ)
    → IsTrue l.selected → l.points ≡ p ∷ [] → acts_of bytes ≡ hit ∷ store ∷ []
    → IsFirst (record { ops = l.ops; point = p }) hit store → (target_of hit.entry == 0) ≡ false
    → saves_register lo hi (target_of hit.entry) store.entry ≡ true
    → report_of (l ∷ []) (map (reached lo hi (acts_of bytes)) (aims_of (l ∷ [])))
    (map (hit_count (entries_of bytes)) (aims_of (l ∷ []))) (length (entries_of bytes))
    ≡ report_of (l ∷ []) (1 ∷ []) (1 ∷ []) 2
one-reached lo hi l p hit store bytes selected single two first some saved =
    let a : Aim = record { ops = l.ops; point = p } in
    let chosen : l.selected ≡ true = selected in
    let acts = hit ∷ store ∷ [] in
    let entries = hit.entry ∷ store.entry ∷ [] in
    ap (λ (es : List Entry). report-on lo hi l (acts_of bytes) es (aims_of (l ∷ [])))
    (sym (acts_are_entries bytes))
    ∙ ap (λ (those : List Act). report-on lo hi l those (map (λ (x : Act). x.entry) those)
    (aims_of (l ∷ []))) two
    ∙ ap (report-on lo hi l acts entries) (one-aim l p chosen single)
    ∙ (λ k. report_of (l ∷ []) (reached-first lo hi a hit store first.0 first.1
    (reaches_next lo hi hit store [] some saved) k ∷ [])
    (hits-first p.meaning a hit.entry store.entry refl first.0 first.1 k ∷ []) 2)
