use Rattle.std.proofs.Common.{◌≡◌, ◌++◌, Result, drop, flat_map}
use Rattle.rvs_base.specs.Sink.{SinkState}
use Rattle.rvs_plan.specs.World.{World, world}
use Rattle.rvs_plan.specs.Meets.{Meets}
use Rattle.rvs_plan.specs.declared.stop.Stop.{Stop}
use Rattle.rvs_inputs.specs.GroupsView.{groups_view}
use Rattle.rvs_generate.specs.GenerateTexts.{none, label_text, with_labels}
use Rattle.rvs_generate.specs.GenerateView.{totals_view}
use Rattle.rvs_generate.specs.Generate.{writes_tests}
use Rattle.rvs_generate.proofs.generating.write_tests.Given as goal

-- what the rest of the labels comes to is what all of them come to
abbrev pub invariant-loop-label : goal.invariant-loop-label
invariant-loop-label g l = record {
  met : (out : SinkState) (new : World) (result : Result (Unit {0}) Stop)
      → Meets (writes_tests l.work l.inputs.isa (groups_view (drop l.label-index l.labels)))
      (world (g.H.Host.state l.host) out) new result
      → Meets (writes_tests l.work l.inputs.isa (groups_view l.labels))
      (world (g.H.Host.state l.fn.host) out) new result;
  text : l.said.text ++ flat_map (label_text l.inputs.isa)
      (groups_view (drop l.label-index l.labels))
      ≡ flat_map (label_text l.inputs.isa) (groups_view l.labels);
  totals : with_labels l.inputs.isa (totals_view l.said.totals)
      (groups_view (drop l.label-index l.labels))
      ≡ with_labels l.inputs.isa none (groups_view l.labels);
}
