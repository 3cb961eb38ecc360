use Rattle.std.proofs.Common.{◌≡◌, ◌∙◌}
use Rattle.rvs_plan.specs.World.{world}
use Rattle.rvs_plan.proofs.Sequence.{Meets-gives}
use Rattle.rvs_run.proofs.judging.write_held.Goals as goal

pub returns-in-Held : goal.returns-in-Held
returns-in-Held g c = λ out.
    let text : c.as_bytes.result.now ≡ c.in-Held.test.text =
    c.as_bytes.ensures.value ∙ c.as_str.ensures in
    rw c.in-Held.is (rw text at (c.write_bytes.ensures out))

pub returns-in-Read : goal.returns-in-Read
returns-in-Read g c =
    λ out. rw c.in-Read.is (Meets-gives tt (world (g.H.Host.state c.args.host.now) out))
