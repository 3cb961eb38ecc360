use Rattle.std.proofs.Common.{Ok, Err, subst}
use Rattle.rvs_base.specs.Sink.{SinkState}
use Rattle.rvs_plan.specs.Account.{Concludes}
use Rattle.rvs_promises.proofs.ProgressEnds.{concludes-untold}
use Rattle.rvs_suite.proofs.suite.conclude_told.Goals as goal

pub returns-in-Ok : goal.returns-in-Ok
returns-in-Ok g c = rw c.in-Ok.is (λ told is later.
    subst (λ (s : SinkState). Concludes (Ok c.in-Ok.finish) c.conclude.result s
    (g.E.Sink.state c.conclude.new.err)) is c.conclude.ensures)

pub returns-in-Err-Stopped : goal.returns-in-Err-Stopped
returns-in-Err-Stopped g c = rw (c.in-Err-Stopped.is, c.in-Err-Stopped.field-0-is)
    (λ told is later.
    subst (λ (s : SinkState). Concludes (Err c.in-Err-Stopped.stop)
    c.conclude-in-Err-Stopped.result s
    (g.E.Sink.state c.conclude-in-Err-Stopped.new.err)) is c.conclude-in-Err-Stopped.ensures)

pub returns-in-Err-Untold : goal.returns-in-Err-Untold
returns-in-Err-Untold g c = rw (c.in-Err-Untold.is, c.in-Err-Untold.field-0-is) (λ told is later.
    concludes-untold told (g.E.Sink.state c.args.err.now) is later)
