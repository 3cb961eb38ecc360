use Rattle.std.proofs.Common.{◌≡◌, ℕ, Bool, Result, drop}
use Rattle.rvs_base.specs.Sink.{SinkState}
use Rattle.rvs_plan.specs.World.{World, world}
use Rattle.rvs_plan.specs.Meets.{Meets}
use Rattle.rvs_plan.specs.declared.stop.Stop.{Stop}
use Rattle.rvs_log.specs.Progress.{HasTold}
use Rattle.rvs_coverage.specs.LogReport.{takes_logs}
use Rattle.rvs_coverage.specs.Telling.{lines_of_logs}
use Rattle.rvs_coverage.proofs.taking_logs.take_onto.Given as goal

-- what the rest of the logs comes to is what all of them come to
abbrev pub invariant-loop-log : goal.invariant-loop-log
invariant-loop-log g l = record {
  rest : (out : SinkState) (new : World) (result : Result g.row.T-Known.Denot Stop)
      → Meets (takes_logs g.T.LogTaker.name (g.T.LogTaker.more l.fn.taker) l.known
      (drop l.log-index l.logs)) (world (g.H.Host.state l.host) out) new result
      → Meets (takes_logs g.T.LogTaker.name (g.T.LogTaker.more l.fn.taker) l.fn.none l.fn.logs)
      (world (g.H.Host.state l.fn.host) out) new result;
  fits : (n : ℕ) → g.T.LogTaker.fits n l.fn.none → g.T.LogTaker.fits n l.known;
  same : g.T.LogTaker.more l.taker ≡ g.T.LogTaker.more l.fn.taker;
  tells : (whole lost : Bool) (sink : SinkState)
      → HasTold l.progress (lines_of_logs g.T.LogTaker.name (drop l.log-index l.logs))
      (g.H.Host.state l.host) (g.E.Sink.state l.err) sink whole lost
      → HasTold l.progress (lines_of_logs g.T.LogTaker.name l.fn.logs)
      (g.H.Host.state l.fn.host) (g.E.Sink.state l.fn.err) sink whole lost;
}
