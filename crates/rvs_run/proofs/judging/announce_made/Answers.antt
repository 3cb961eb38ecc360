use Rattle.std.proofs.lemmas.Result.{err_from_is_err_and}
use Rattle.rvs_plan.proofs.Sequence.{Meets-then, Meets-stop, Meets-weaker}
use Rattle.rvs_run.specs.RunTests.{announces}
use Rattle.rvs_generate.specs.Tests.{source_name}
use Rattle.rvs_run.proofs.judging.announce_made.Goals as goal

pub returns-in_err-verdict : goal.returns-in_err-verdict
returns-in_err-verdict g c =
    let out = g.O.Sink.state c.args.out.now in
    let p = err_from_is_err_and c.from_residual.result c.from_residual.ensures.1 in
    rw (p.1, p.2) (Meets-stop (announces (source_name c.args.source.now))
    (c.in_err-verdict.ensures out))

pub returns : goal.returns
returns g c =
    let out = g.O.Sink.state c.args.out.now in
    let put =
    rw c.name_of.ensures at (c.print_verdict.ensures (g.H.Host.state c.judge_made.new.host)) in
    Meets-then (announces (source_name c.args.source.now)) (c.in_ok-verdict.ensures out)
    (Meets-weaker put)
