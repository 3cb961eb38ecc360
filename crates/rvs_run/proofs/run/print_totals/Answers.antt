use Rattle.std.proofs.Common.{◌≡◌, ◌∙◌}
use Rattle.std.proofs.lemmas.Result.{err_from_is_err_and}
use Rattle.rvs_plan.specs.World.{world}
use Rattle.rvs_plan.specs.Plan.{gives}
use Rattle.rvs_plan.proofs.Sequence.{Meets-then, Meets-stop, Meets-gives, Meets-no_memory}
use Rattle.rvs_run.specs.RunTests.{tally_line, verdict_of_all, tallies}
use Rattle.rvs_run.proofs.run.print_totals.Goals as goal

pub returns-in_err-line : goal.returns-in_err-line
returns-in_err-line g c = λ host.
    let p = err_from_is_err_and c.from_residual.result c.from_residual.ensures.1 in
    rw (p.1, p.2) (Meets-no_memory (tallies c.args.tests c.args.passed)
    (world host (g.O.Sink.state c.args.out.now)))

pub returns-in_err-print : goal.returns-in_err-print
returns-in_err-print g c = λ host.
    let p = err_from_is_err_and c.from_residual-in_err-print.result
    c.from_residual-in_err-print.ensures.1 in
    let line : c.as_bytes.result.now ≡ tally_line c.args.tests c.args.passed =
    c.as_bytes.ensures.value ∙ c.as_str.ensures ∙ c.in_ok-line.ensures in
    rw (p.1, p.2) (Meets-stop (λ _. gives (verdict_of_all c.args.tests c.args.passed))
    (rw line at (c.in_err-print.ensures host)))

pub returns : goal.returns
returns g c = λ host.
    let line : c.as_bytes.result.now ≡ tally_line c.args.tests c.args.passed =
    c.as_bytes.ensures.value ∙ c.as_str.ensures ∙ c.in_ok-line.ensures in
    let finish : c.finish_of.result ≡ verdict_of_all c.args.tests c.args.passed =
    c.finish_of.ensures in
    rw finish (Meets-then (λ _. gives (verdict_of_all c.args.tests c.args.passed)) (rw line at
    (c.in_ok-print.ensures host)) (Meets-gives (verdict_of_all c.args.tests c.args.passed)
    (world host (g.O.Sink.state c.print.new.out))))
