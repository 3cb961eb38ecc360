use Rattle.std.proofs.Common.{length}
use Rattle.std.proofs.lemmas.Result.{err_from_is_err_and}
use Rattle.rvs_plan.proofs.Sequence.{Meets-then, Meets-stop, Meets-weaker}
use Rattle.rvs_run.specs.RunTests.{tallies}
use Rattle.rvs_run.proofs.run.judge_tests.Goals as goal

pub returns-in_err-passed : goal.returns-in_err-passed
returns-in_err-passed g c =
    let p = err_from_is_err_and c.from_residual.result c.from_residual.ensures.1 in
    rw (p.1, p.2) (Meets-stop (tallies (length c.args.sources.now)) c.in_err-passed.ensures.met)

pub returns : goal.returns
returns g c = Meets-then (tallies (length c.args.sources.now)) c.in_ok-passed.ensures.met
    (Meets-weaker (c.print_totals.ensures (g.H.Host.state c.judge_all.new.host)))
