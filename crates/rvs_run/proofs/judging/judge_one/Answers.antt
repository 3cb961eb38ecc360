use Rattle.std.proofs.lemmas.Result.{err_from_is_err_and}
use Rattle.rvs_plan.proofs.Sequence.{Meets-then, Meets-stop, Meets-weaker}
use Rattle.rvs_run.specs.RunTests.{announces_made}
use Rattle.rvs_run.specs.RunView.{bench_view}
use Rattle.rvs_run.proofs.judging.judge_one.Goals as goal

pub returns-in_err-made : goal.returns-in_err-made
returns-in_err-made g c =
    let out = g.O.Sink.state c.args.out.now in
    let p = err_from_is_err_and c.from_residual.result c.from_residual.ensures.1 in
    rw (p.1, p.2) (Meets-weaker (Meets-stop
    (announces_made (bench_view c.args.bench.now) c.args.source.now) (c.in_err-made.ensures out)))

pub returns : goal.returns
returns g c =
    let out = g.O.Sink.state c.args.out.now in
    Meets-then (announces_made (bench_view c.args.bench.now) c.args.source.now)
    (Meets-weaker (c.in_ok-made.ensures out)) c.announce_made-ended.ensures
