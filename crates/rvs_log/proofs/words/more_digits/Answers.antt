use Rattle.std.proofs.Common.{◌∙◌, sym, inl, inr, arith}
use Rattle.std.proofs.lemmas.Grind.{common_steps}
use Rattle.rvs_log.proofs.Digits.{word_refused_at}
use Rattle.rvs_log.proofs.words.more_digits.Goals as goal
use Rattle.rvs_log.proofs.words.more_digits.Goals.{then-value-ge268435456-via-then-value-ge268435456}
use Rattle.rvs_log.proofs.words.more_digits.Goals.{then-value-ge268435456-via-else-value-ge268435456+then-count-ge16}

pub returns-then-value-ge268435456 : goal.returns-then-value-ge268435456
returns-then-value-ge268435456 c text run sum =
    word_refused_at text c.loop-rest.rest.now c.loop-rest.value c.loop-rest.count c.in-Some.digit
    (run ∙ c.loop-rest.invariant.same) c.in-len1-up.len_at_least
    (sym c.in-Some.ensures.value) (c.loop-rest.invariant.count ∙ sum)
    (elim c.then-value-ge268435456.branch [
      | then-value-ge268435456-via-then-value-ge268435456 w ↦ inl w.if-value-ge268435456.true
      | then-value-ge268435456-via-else-value-ge268435456+then-count-ge16 w ↦ inr
          w.if-count-ge16.true
    ])

pub loop-rest-preserved : goal.loop-rest-preserved
loop-rest-preserved c = record {
  same = grind (arith, common_steps);
  count = omega arith;
  few = omega arith;
}
