use Rattle.std.proofs.lemmas.Result.{err_from_is_err_and}
use Rattle.rvs_plan.proofs.Sequence.{Meets-then, Meets-stop, Meets-weaker}
use Rattle.rvs_report.specs.Report.{puts_page}
use Rattle.rvs_report.proofs.reporting.report_run.Goals as goal

pub returns-in_err-page : goal.returns-in_err-page
returns-in_err-page g c =
    let p = err_from_is_err_and c.from_residual.result c.from_residual.ensures.1 in
    rw (p.1, p.2)
    (Meets-stop puts_page (c.in_err-page.ensures (g.O.Sink.state c.args.out.now)))

pub returns : goal.returns
returns g c = Meets-then puts_page (c.in_ok-page.ensures (g.O.Sink.state c.args.out.now))
    (Meets-weaker (c.put_page.ensures (g.H.Host.state c.find_page.new.host)))
