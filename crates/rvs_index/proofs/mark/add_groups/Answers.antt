use Rattle.std.proofs.Common.{◌≡◌, ◌<◌, ◌≤◌, ◌+◌, ◌-◌, ◌++◌, ◌^◌, ℕ, List, All, sym, ap, subst, ◌∙◌}
use Rattle.std.proofs.Common.{arith, length}
use Rattle.rvs_index.specs.Marks.{raised_marks}
use Rattle.rvs_index.specs.declared.mark.Mark.{Mark}
use Rattle.rvs_index.proofs.Filling.{all_back, marks_join, marks_raise}
use Rattle.rvs_index.proofs.Marks.{marks_length}
use Rattle.rvs_index.proofs.mark.add_groups.Goals as goal

pub loop-rest-preserved : goal.loop-rest-preserved
loop-rest-preserved c =
    let signs = c.args.signs in
    let group : List Mark = c.split_at.result.0.now in
    let after : List Mark = c.split_at.result.1.now in
    let cs = c.loop-rest.counts in
    let new = c.add_marks.new.counts in
    let done = length c.args.marks.now - length c.loop-rest.rest.now in
    let parts : c.loop-rest.rest.now ≡ group ++ after = c.split_at.ensures.by_index.0 in
    let e : new ≡ raised_marks signs group cs = c.add_marks.ensures in
    let long : length new ≡ length cs =
    ap (λ (l : List ℕ). length l) e ∙ marks_length signs group cs in
    let P : Mark → Type 0 = λ m. m.at < length cs in
    let within : All P after =
    all_back P group after (subst (All P) parts c.loop-rest.invariant.within) in
    let Q : List ℕ → Type 0 = λ l. All (λ (n : ℕ). n ≤ 2 ^ 41 + done + length group) l in
    let low : Q new =
    subst Q (sym e) (marks_raise signs (2 ^ 41 + done) group cs c.loop-rest.invariant.low) in
    record {
      same =
          c.loop-rest.invariant.same
          ∙ ap (λ (ms : List Mark). raised_marks signs ms cs) parts
          ∙ marks_join signs group after cs
          ∙ ap (λ (l : List ℕ). raised_marks signs after l) (sym e);
      len = long ∙ c.loop-rest.invariant.len;
      short = omega (arith, c.split_at.ensures.back_len, c.loop-rest.invariant.short);
      within = λ k d h. omega (arith, within k d h, long);
      low = λ k d h.
          omega (
            arith,
            low k d h,
            c.split_at.ensures.front_len,
            c.split_at.ensures.back_len,
            c.loop-rest.invariant.short,
          );
    }
