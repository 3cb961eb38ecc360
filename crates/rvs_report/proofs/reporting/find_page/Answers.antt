use Rattle.std.proofs.lemmas.Result.{err_from_is_err_and}
use Rattle.rvs_plan.proofs.Sequence.{Meets-then, Meets-stop, Meets-weaker}
use Rattle.rvs_report.specs.Report.{shows_page}
use Rattle.rvs_report.proofs.reporting.find_page.Goals as goal

pub returns-in_err-inputs : goal.returns-in_err-inputs
returns-in_err-inputs g c = λ out.
    let p = err_from_is_err_and c.from_residual.result c.from_residual.ensures.1 in
    rw (p.1, p.2) (Meets-weaker (Meets-stop (shows_page c.args.asked.now)
    (c.in_err-inputs.ensures.met out)))

pub returns : goal.returns
returns g c = λ out.
    Meets-then (shows_page c.args.asked.now) (Meets-weaker (c.in_ok-inputs.ensures.met out))
    (c.show_page-page.ensures out)
