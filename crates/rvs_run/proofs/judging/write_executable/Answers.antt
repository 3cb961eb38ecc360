use Rattle.rvs_plan.specs.World.{world}
use Rattle.rvs_plan.proofs.Sequence.{Meets-gives}
use Rattle.rvs_run.proofs.judging.write_executable.Goals as goal

pub returns-in-None : goal.returns-in-None
returns-in-None g c =
    λ out. rw c.in-None.is (Meets-gives tt (world (g.H.Host.state c.args.host.now) out))

pub returns-in-Some : goal.returns-in-Some
returns-in-Some g c = λ out. rw c.in-Some.is (rw c.as_slice.ensures at (c.write_bytes.ensures out))
