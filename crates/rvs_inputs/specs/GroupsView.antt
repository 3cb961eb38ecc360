-- What the code's groups stand for.
use Rattle.std.specs.Prelude.{List, map}
use Rattle.rvs_cgf.specs.Groups.{Label}
use Rattle.rvs_cgf.specs.GroupView.{label_view}
use Rattle.rvs_points.specs.declared.group.Label.{Label as Code}
use Rattle.rvs_inputs.specs.GroupFiles.{Inputs}
use Rattle.rvs_inputs.specs.declared.group_files.Inputs.{Inputs as CodeInputs}

abbrev pub groups_view : List Code → List Label
groups_view groups = map label_view groups

abbrev pub inputs_view : CodeInputs → Inputs
inputs_view inputs = record { isa = inputs.isa; groups = groups_view inputs.groups }
