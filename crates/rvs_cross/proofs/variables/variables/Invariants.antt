use Rattle.std.proofs.Common.{◌≡◌, map, drop}
use Rattle.rvs_cross.specs.Outcomes.{for_each}
use Rattle.rvs_cross.specs.Variables.{note_entry, variables}
use Rattle.rvs_cross.proofs.variables.variables.Given as goal

abbrev pub invariant-loop-entry : goal.invariant-loop-entry
invariant-loop-entry l =
    for_each note_entry (map (λ t. t.now) (drop l.entry-index l.entries)) l.variables
    ≡ variables (map (λ t. t.now) l.entries)
