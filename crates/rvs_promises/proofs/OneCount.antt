-- The report on a log of one instruction, which hits the only point of the only label.
use Rattle.std.proofs.Common.{◌≡◌, ℕ, Bool, true, false, List, [], ◌∷◌, map, length}
use Rattle.std.proofs.Common.{Option, Some, None, ap, ◌∙◌, IsTrue, sym, arith}
use Rattle.rvs_insn.specs.Fields.{Fields}
use Rattle.rvs_facts.specs.Facts.{facts_of}
use Rattle.rvs_cross.specs.Cross.{Place}
use Rattle.rvs_log.specs.Entries.{Entry}
use Rattle.rvs_cgf.specs.Groups.{Meaning, window, Label, Point}
use Rattle.rvs_points.specs.Hits.{has_op, is_meant}
use Rattle.rvs_points.proofs.Distinct.{and-right}
use Rattle.rvs_index.specs.Counting.{Aim, aims_of, count, count_for, hits, hits_insn, kept}
use Rattle.rvs_count.specs.Report.{report_of}
use Rattle.rvs_base.specs.declared.asked.Window.{Window}

-- no instruction alone hits a cross point
pub no-window : (a : Aim) (i : Option Fields) (v1 v2 : ℕ) (ps : List Place)
    → a.point.meaning ≡ window ps → hits_insn a i v1 v2 ≡ true → ⊥
no-window a None v1 v2 ps is hit = cc
no-window a (Some i) v1 v2 ps is hit =
    let meant = and-right (has_op a.ops i.op)
    (is_meant a.point.kind a.point.meaning i.op (facts_of i v1 v2)) hit in
    let none : is_meant a.point.kind a.point.meaning i.op (facts_of i v1 v2) ≡ false =
    ap (λ (m : Meaning). is_meant a.point.kind m i.op (facts_of i v1 v2)) is in
    let both : true ≡ false = sym meant ∙ none in cc

counted-for : (m : Meaning) (a : Aim) (e : Entry) → a.point.meaning ≡ m → hits a e ≡ true
    → count_for m (e ∷ []) a ≡ 1
counted-for m a e is hit = grind arith

-- what the report says of these entries
abbrev report-on : List Label → List Entry → List ℕ
report-on groups entries = report_of groups (map (count entries) (aims_of groups)) (length entries)

-- a label in which these parts stand
abbrev label-with : Label → Bool → List Point → Label
label-with l b points = record {
  name = l.name;
  ops = l.ops;
  selected = b;
  points = points;
  skipped = l.skipped;
}

-- the one point of the one label
pub one-aim : (l : Label) (p : Point) → l.selected ≡ true → l.points ≡ p ∷ []
    → aims_of (l ∷ []) ≡ record { ops = l.ops; point = p } ∷ []
one-aim l p chosen single = (λ i. aims_of (label-with l (chosen i) (single i) ∷ []))

pub one-count : (windows : List Window) (l : Label) (p : Point) (e : Entry) → IsTrue l.selected
    → l.points ≡ p ∷ [] → windows ≡ [] → IsTrue (hits (record { ops = l.ops; point = p }) e)
    → report_of (l ∷ []) (map (count (kept windows (e ∷ []))) (aims_of (l ∷ [])))
    (length (kept windows (e ∷ []))) ≡ report_of (l ∷ []) (1 ∷ []) 1
one-count windows l p e selected single none hit = grind (arith, one-aim, counted-for)
