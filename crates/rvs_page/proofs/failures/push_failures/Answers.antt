use Rattle.std.proofs.Common.{[], ◌∙◌, ◌++◌, ◌≡◌, true, false, cond, ap, append-nil, sym}
use Rattle.std.specs.List.{list_any}
use Rattle.rvs_page.proofs.Verdicts.{none_fails, some_fails}
use Rattle.rvs_page.proofs.Telling.{behind, says, more-told, all-told}
use Rattle.rvs_page.specs.Failures.{failure_text, failures_text, section}
use Rattle.rvs_page.specs.Shown.{label_fails}
use Rattle.rvs_page.proofs.failures.push_failures.Goals as goal

pub loop-label-preserved : goal.loop-label-preserved
loop-label-preserved c =
    more-told failure_text c.loop-label.page.items c.args.labels.now _ c.loop-label-test.true
    c.label-item.is c.in_ok-push_failure.ensures c.loop-label.invariant

pub returns-in_default : goal.returns-in_default
unfolding failures_text
returns-in_default c =
    let labels = c.args.labels.now in
    let none : list_any label_fails labels ≡ false
    = none_fails labels (λ e. c.in_default.not-Fail (c.verdict_of.ensures ∙ e)) in
    sym (append-nil c.args.page.now.items)
    ∙ ap (λ t. c.args.page.now.items ++ t) (sym (ap (λ b. cond b (section labels) []) none))

pub returns : goal.returns
unfolding failures_text
returns c =
    let labels = c.args.labels.now in
    let some : list_any label_fails labels ≡ true
    = some_fails labels (sym c.verdict_of.ensures ∙ c.in-Fail.is) in
    says c.push_html-2.result c.args.page.now.items c.push_html-2.new.page.items
    (behind c.push_html-2.result c.args.page.now.items c.push_html.new.page.items
    c.push_html-2.new.page.items _ _ c.in_ok-push_html.ensures
    (behind c.push_html-2.result c.push_html.new.page.items c.loop-label.page.items
    c.push_html-2.new.page.items _ _
    (all-told failure_text c.loop-label.page.items labels c.loop-label-test.false
    c.loop-label.invariant)
    c.push_html-2.ensures))
    (sym (ap (λ b. cond b (section labels) []) some))
