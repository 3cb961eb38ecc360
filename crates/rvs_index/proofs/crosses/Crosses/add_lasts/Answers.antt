use Rattle.std.proofs.Common.{◌+◌, ◌^◌, ◌≤◌, ℕ, List, All, ap, subst, sym, ◌∙◌, arith, length}
use Rattle.rvs_index.specs.Counting.{aims_in}
use Rattle.rvs_index.proofs.Hitting.{added_length, added_low}
use Rattle.rvs_index.proofs.Lengths.{lasts_done, lasts_more}
use Rattle.rvs_index.proofs.crosses.Crosses.add_lasts.Goals as goal

pub add_last-requires-clause-some : goal.add_last-requires-clause-some
add_last-requires-clause-some c =
    c.requires.some c.loop-count.count-index 0 c.loop-count-test.true

pub add_last-requires-clause-low : goal.add_last-requires-clause-low
add_last-requires-clause-low c =
    let low = c.loop-count.invariant.low in
    λ k d l. omega (arith, low k d l, c.loop-count-test.true, c.requires.short)

pub loop-count-preserved : goal.loop-count-preserved
loop-count-preserved c =
    let aims = aims_in c.args.self.now in
    let cs = c.loop-count.counts in
    let at = c.loop-count.count-index in
    let P : List ℕ → Type 0 = λ l. All (λ (n : ℕ). n ≤ 2 ^ 41 + (at + 1)) l in
    let low : All (λ (n : ℕ). n ≤ 2 ^ 41 + at + 1) _ =
    added_low _ aims cs (2 ^ 41 + at) c.loop-count.invariant.low in
    record {
      same =
          lasts_more c.args.lengths.now c.args.run.now aims cs c.add_last.new.counts at 0
          c.loop-count-test.true c.add_last.ensures
          ∙ c.loop-count.invariant.same;
      count = ap (λ l. length l) c.add_last.ensures
          ∙ added_length _ aims cs c.loop-count.invariant.count;
      low = subst P (sym c.add_last.ensures) (λ k d l. omega (arith, low k d l));
    }

pub returns : goal.returns
returns c =
    sym (lasts_done c.args.lengths.now c.args.run.now (aims_in c.args.self.now)
    c.loop-count.counts c.loop-count.count-index c.loop-count-test.false)
    ∙ c.loop-count.invariant.same
