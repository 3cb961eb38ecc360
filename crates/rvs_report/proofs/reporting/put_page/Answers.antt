use Rattle.std.proofs.Common.{◌≡◌, ap, ◌∙◌}
use Rattle.std.proofs.lemmas.Result.{err_from_is_err_and}
use Rattle.rvs_plan.specs.World.{world}
use Rattle.rvs_plan.specs.Plan.{gives}
use Rattle.rvs_plan.proofs.Sequence.{Meets-then, Meets-stop, Meets-gives, Meets-no_memory}
use Rattle.rvs_page.specs.Page.{page_of}
use Rattle.rvs_page.specs.Shown.{verdict_of}
use Rattle.rvs_report.specs.Report.{end_by, puts_page}
use Rattle.rvs_report.proofs.reporting.put_page.Goals as goal

pub returns-in_err-text : goal.returns-in_err-text
returns-in_err-text g c = λ host.
    let p = err_from_is_err_and c.from_residual.result c.from_residual.ensures.1 in
    rw (p.1, p.2) (Meets-no_memory (puts_page c.args.page.now)
    (world host (g.O.Sink.state c.args.out.now)))

pub returns-in_err-put : goal.returns-in_err-put
returns-in_err-put g c = λ host.
    let p = err_from_is_err_and c.from_residual-in_err-put.result
    c.from_residual-in_err-put.ensures.1 in
    let page = c.args.page.now in
    let text : c.as_slice.result.now ≡ page_of page = c.as_slice.ensures ∙ c.in_ok-text.ensures in
    rw (p.1, p.2) (Meets-stop (λ _. gives (end_by (verdict_of page.labels)))
    (rw text at (c.in_err-put.ensures host)))

pub returns : goal.returns
returns g c = λ host.
    let page = c.args.page.now in
    let text : c.as_slice.result.now ≡ page_of page = c.as_slice.ensures ∙ c.in_ok-text.ensures in
    let end : c.end_by.result ≡ end_by (verdict_of page.labels) =
    c.end_by.ensures ∙ ap end_by (c.verdict_of.ensures ∙ ap verdict_of c.as_slice-2.ensures) in
    rw end (Meets-then (λ _. gives (end_by (verdict_of page.labels)))
    (rw text at (c.in_ok-put.ensures host))
    (Meets-gives (end_by (verdict_of page.labels))
    (world host (g.O.Sink.state c.print-put.new.out))))
