use Rattle.std.proofs.Common.{◌≡◌, ◌∙◌, ◌+◌, cond, ap, drop, sym}
use Rattle.rvs_page.proofs.Verdicts.{judged, judged-end, judged-fails, judged-more}
use Rattle.rvs_page.specs.Shown.{is_open}
use Rattle.rvs_page.specs.declared.shown.Verdict.TheVariants as verdict
use Rattle.rvs_page.proofs.totals.verdict_of.Goals.{then-is_open, else-is_open}
use Rattle.rvs_page.proofs.totals.verdict_of.Goals as goal

pub loop-label-preserved : goal.loop-label-preserved
loop-label-preserved c =
    let v = c.loop-label.verdict in
    let next : c.if-is_open.verdict
    ≡ cond (is_open c.label-item.result.state) verdict.Incomplete v
    = elim c.if-is_open.branch [
      | then-is_open w ↦ w.verdict-is ∙ sym (ap (λ b. cond b verdict.Incomplete v)
          (sym c.is_open.ensures ∙ w.if-is_open.true))
      | else-is_open w ↦ w.verdict-is ∙ sym (ap (λ b. cond b verdict.Incomplete v)
          (sym c.is_open.ensures ∙ w.if-is_open.false))
    ] in
    ap (λ found. judged found (drop (c.loop-label.label-index + 1) c.args.labels.now)) next
    ∙ judged-more v c.args.labels.now _ c.loop-label-test.true c.label-item.is
    (sym c.fails.ensures ∙ c.if-fails.false)
    ∙ c.loop-label.invariant

pub returns-then-fails : goal.returns-then-fails
returns-then-fails c =
    sym (judged-fails c.loop-label.verdict c.args.labels.now _ c.loop-label-test.true
    c.label-item.is (sym c.fails.ensures ∙ c.if-fails.true))
    ∙ c.loop-label.invariant

pub returns : goal.returns
returns c =
    sym (judged-end c.loop-label.verdict c.args.labels.now c.loop-label-test.false)
    ∙ c.loop-label.invariant
