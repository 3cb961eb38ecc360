use Rattle.std.proofs.Common.{◌≡◌, ◌≤◌, ◌+◌, ◌^◌, ℕ, List, All, sym, ap, subst, ◌∙◌, arith, drop}
use Rattle.std.proofs.Common.{get_or, length}
use Rattle.rvs_index.specs.Index.{raised}
use Rattle.rvs_index.specs.Marks.{raised_marks}
use Rattle.rvs_index.specs.Signs.{has_all}
use Rattle.rvs_index.specs.declared.mark.Mark.{Mark}
use Rattle.rvs_index.proofs.Marks.{marks_next}
use Rattle.rvs_index.proofs.Places.{raised_length, raised_low}
use Rattle.rvs_index.proofs.mark.add_marks.Goals as goal

pub loop-mark-preserved : goal.loop-mark-preserved
loop-mark-preserved c =
    let signs = c.args.signs in
    let blank : Mark = record { at = 0; mask = 0 } in
    let m : Mark = get_or c.args.marks.now c.loop-mark.mark-index blank in
    let cs = c.loop-mark.counts in
    let hit = has_all signs m.mask in
    let rest = drop (c.loop-mark.mark-index + 1) c.args.marks.now in
    let e : c.raise.new.counts ≡ raised hit m.at cs =
    c.raise.ensures.items ∙ ap (λ h. raised h m.at cs) c.lacks_none-hit.ensures in
    let P : List ℕ → Type 0 = λ l. All (λ (n : ℕ). n ≤ 2 ^ 62 + c.loop-mark.mark-index + 1) l in
    let low : P c.raise.new.counts =
    subst P (sym e) (raised_low hit cs m.at (2 ^ 62 + c.loop-mark.mark-index)
    c.loop-mark.invariant.low) in
    record {
      same =
          c.loop-mark.invariant.same
          ∙ marks_next signs c.args.marks.now c.loop-mark.mark-index blank cs c.loop-mark-test.true
          ∙ ap (λ cs. raised_marks signs rest cs) (sym e);
      len = ap (λ (l : List ℕ). length l) e ∙ raised_length hit cs m.at ∙ c.loop-mark.invariant.len;
      low = λ k d l. omega (arith, low k d l);
    }
