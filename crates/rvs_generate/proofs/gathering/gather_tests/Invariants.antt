use Rattle.std.proofs.Common.{◌≡◌, ◌++◌, drop, flat_map}
use Rattle.rvs_inputs.specs.GroupsView.{groups_view}
use Rattle.rvs_generate.specs.GenerateTexts.{none, label_text, with_labels}
use Rattle.rvs_generate.specs.GenerateView.{totals_view}
use Rattle.rvs_generate.specs.Tests.{held, tests_of}
use Rattle.rvs_generate.proofs.gathering.gather_tests.Given as goal

-- what the rest of the labels comes to is what all of them come to
abbrev pub invariant-loop-label : goal.invariant-loop-label
invariant-loop-label l = record {
  text : l.said.text ++ flat_map (label_text l.inputs.isa)
      (groups_view (drop l.label-index l.labels))
      ≡ flat_map (label_text l.inputs.isa) (groups_view l.labels);
  totals : with_labels l.inputs.isa (totals_view l.said.totals)
      (groups_view (drop l.label-index l.labels))
      ≡ with_labels l.inputs.isa none (groups_view l.labels);
  tests : l.tests ++ held (tests_of l.inputs.isa (groups_view (drop l.label-index l.labels)))
      ≡ held (tests_of l.inputs.isa (groups_view l.labels));
}
