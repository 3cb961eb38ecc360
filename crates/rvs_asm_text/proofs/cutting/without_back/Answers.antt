use Rattle.std.proofs.Common.{◌∙◌, sym, arith, ap, ◌≡◌, take}
use Rattle.rvs_asm_text.proofs.Cuts.{trim_step, trim_stop}
use Rattle.rvs_asm_text.specs.Text.{trim_end}
use Rattle.rvs_asm_text.proofs.cutting.without_back.Goals as goal
use Rattle.rvs_asm_text.proofs.cutting.without_back.Goals.{then-loop-end-test+else-is_blank_byte}
use Rattle.rvs_asm_text.proofs.cutting.without_back.Goals.{else-loop-end-test}

pub loop-end-preserved : goal.loop-end-preserved
loop-end-preserved c = record {
  within = omega arith;
  same = c.loop-end.invariant.same ∙ trim_step c.args.text.now c.loop-end.end c.loop-end-test.true
      c.loop-end.invariant.within (sym c.is_blank_byte.ensures ∙ c.if-is_blank_byte.true);
}

pub returns : goal.returns
returns c =
    elim c.loop-end-test.branch [
      | then-loop-end-test+else-is_blank_byte w ↦ sym (c.loop-end.invariant.same ∙ trim_stop
          c.args.text.now c.loop-end.end w.loop-end-test.true c.loop-end.invariant.within
          (sym w.is_blank_byte.ensures ∙ w.if-is_blank_byte.false))
      | else-loop-end-test w ↦
          (let e : c.loop-end.end ≡ 0 = omega arith in ap (λ n. take n c.args.text.now) e
          ∙ sym (c.loop-end.invariant.same ∙ ap (λ n. trim_end (take n c.args.text.now)) e))
    ]
