use Rattle.std.proofs.Common.{◌≤◌, ℕ, Result, drop}
use Rattle.rvs_plan.specs.World.{World, world, IsAnswer}
use Rattle.rvs_plan.specs.Meets.{MeetsWith}
use Rattle.rvs_plan.specs.declared.stop.Stop.{Stop}
use Rattle.rvs_run.specs.RunTests.{judges_all}
use Rattle.rvs_run.specs.RunView.{bench_view}
use Rattle.rvs_run.proofs.run.judge_all.Given as goal

-- what the rest of the tests comes to is what all of them come to
abbrev pub invariant-loop-source : goal.invariant-loop-source
invariant-loop-source g l = record {
  met : (new : World) (result : Result ℕ Stop)
      → MeetsWith IsAnswer
      (judges_all (bench_view l.bench) l.passed (drop l.source-index l.sources))
      (world (g.H.Host.state l.host) (g.O.Sink.state l.out)) new result
      → MeetsWith IsAnswer (judges_all (bench_view l.bench) 0 l.sources)
      (world (g.H.Host.state l.fn.host) (g.O.Sink.state l.fn.out)) new result;
  some : l.passed ≤ l.source-index;
}
