use Rattle.rvs_plan.specs.World.{world}
use Rattle.std.proofs.Common.{Ok}
use Rattle.rvs_run.specs.RunTests.{made_for}
use Rattle.rvs_run.specs.RunView.{bench_view}
use Rattle.rvs_reference.proofs.Accepts.{Meets-accepts}
use Rattle.rvs_run.proofs.judging.make_test.Goals as goal

pub returns-in-Held : goal.returns-in-Held
returns-in-Held g c = λ out. rw c.in-Held.is (Meets-accepts
    (Ok (made_for (bench_view c.args.bench.now) c.in-Held.test)) c.make_held.result
    (world (g.H.Host.state c.args.host.now) out) c.make_held.ensures)

pub returns-in-Read : goal.returns-in-Read
returns-in-Read g c = λ out. rw c.in-Read.is (c.make_given.ensures out)
