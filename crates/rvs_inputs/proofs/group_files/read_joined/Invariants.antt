use Rattle.std.proofs.Common.{List, ℕ, None, Result, drop}
use Rattle.rvs_base.specs.Sink.{SinkState}
use Rattle.rvs_plan.specs.World.{World, world}
use Rattle.rvs_plan.specs.Meets.{Meets}
use Rattle.rvs_plan.specs.declared.stop.Stop.{Stop}
use Rattle.rvs_inputs.specs.GroupFiles.{joins_all}
use Rattle.rvs_inputs.proofs.group_files.read_joined.Given as goal

-- what the rest of the files comes to is what all of them come to
abbrev pub invariant-loop-name : goal.invariant-loop-name
invariant-loop-name g l =
    (out : SinkState) (new : World) (result : Result (List ℕ) Stop)
    → Meets (joins_all l.front (drop l.name-index l.names)) (world (g.H.Host.state l.host) out) new
    result
    → Meets (joins_all None l.fn.names) (world (g.H.Host.state l.fn.host) out) new result
