use Rattle.std.proofs.Common.{◌≡◌, map, drop}
use Rattle.rvs_cross.specs.Outcomes.{for_each}
use Rattle.rvs_cross.specs.Variables.{note_part}
use Rattle.rvs_cross.proofs.variables.note_parts.Given as goal

abbrev pub invariant-loop-part : goal.invariant-loop-part
invariant-loop-part l =
    for_each note_part (map (λ t. t.now) (drop l.part-index l.parts)) l.variables
    ≡ for_each note_part (map (λ t. t.now) l.parts) l.fn.variables
