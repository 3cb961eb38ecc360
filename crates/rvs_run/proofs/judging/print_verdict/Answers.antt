use Rattle.std.proofs.Common.{◌≡◌, ◌∙◌}
use Rattle.std.proofs.lemmas.Result.{err_from_is_err_and}
use Rattle.rvs_plan.specs.World.{world}
use Rattle.rvs_plan.specs.Plan.{gives}
use Rattle.rvs_plan.proofs.Sequence.{Meets-then, Meets-stop, Meets-gives, Meets-no_memory}
use Rattle.rvs_device.specs.Printed.{verdict_line}
use Rattle.rvs_run.specs.RunTests.{passes, announces}
use Rattle.rvs_run.proofs.judging.print_verdict.Goals as goal

pub returns-in_err-line : goal.returns-in_err-line
returns-in_err-line g c = λ host.
    let p = err_from_is_err_and c.from_residual.result c.from_residual.ensures.1 in
    rw (p.1, p.2) (Meets-no_memory (announces c.args.name.now c.args.verdict.now)
    (world host (g.O.Sink.state c.args.out.now)))

pub returns-in_err-print : goal.returns-in_err-print
returns-in_err-print g c = λ host.
    let p = err_from_is_err_and c.from_residual-in_err-print.result
    c.from_residual-in_err-print.ensures.1 in
    let line : c.as_bytes.result.now ≡ verdict_line c.args.name.now c.args.verdict.now =
    c.as_bytes.ensures.value ∙ c.as_str.ensures ∙ c.in_ok-line.ensures in
    rw (p.1, p.2) (Meets-stop (λ _. gives (passes c.args.verdict.now))
    (rw line at (c.in_err-print.ensures host)))

pub returns : goal.returns
returns g c = λ host.
    let verdict = c.args.verdict.now in
    let line : c.as_bytes.result.now ≡ verdict_line c.args.name.now verdict =
    c.as_bytes.ensures.value ∙ c.as_str.ensures ∙ c.in_ok-line.ensures in
    let passed : c.passes.result ≡ passes verdict = c.passes.ensures in
    rw passed (Meets-then (λ _. gives (passes verdict)) (rw line at (c.in_ok-print.ensures host))
    (Meets-gives (passes verdict) (world host (g.O.Sink.state c.print.new.out))))
