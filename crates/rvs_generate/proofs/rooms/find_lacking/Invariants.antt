use Rattle.std.proofs.Common.{◌≡◌, drop}
use Rattle.std.specs.Prelude.{find}
use Rattle.rvs_generate.specs.TestedInputs.{lacks_room}
use Rattle.rvs_inputs.specs.GroupsView.{groups_view}
use Rattle.rvs_generate.proofs.rooms.find_lacking.Given as goal

-- the first of the rest is the first of all
abbrev pub invariant-loop-label : goal.invariant-loop-label
invariant-loop-label g l = record {
  first : find (lacks_room l.isa) (groups_view (drop l.label-index l.labels))
      ≡ find (lacks_room l.isa) (groups_view l.labels);
}
