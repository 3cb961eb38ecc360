use Rattle.std.proofs.Common.{[], List, Result, drop}
use Rattle.rvs_base.specs.Sink.{SinkState}
use Rattle.rvs_plan.specs.World.{World, world, IsAnswer}
use Rattle.rvs_plan.specs.Meets.{MeetsWith}
use Rattle.rvs_plan.specs.declared.stop.Stop.{Stop}
use Rattle.rvs_page.specs.declared.shown.Label.{Label as ShownLabel}
use Rattle.rvs_inputs.specs.GroupsView.{groups_view}
use Rattle.rvs_report.specs.Report.{shows_labels}
use Rattle.rvs_report.proofs.reporting.show_labels.Given as goal

-- what the rest of the labels comes to is what all of them come to
abbrev pub invariant-loop-label : goal.invariant-loop-label
invariant-loop-label g l = record {
  met : (out : SinkState) (new : World) (result : Result (List ShownLabel) Stop)
      → MeetsWith IsAnswer (shows_labels l.isa l.work l.shown l.rest
      (groups_view (drop l.label-index l.labels))) (world (g.H.Host.state l.host) out) new result
      → MeetsWith IsAnswer (shows_labels l.isa l.work [] l.counts (groups_view l.labels))
      (world (g.H.Host.state l.fn.host) out) new result;
}
