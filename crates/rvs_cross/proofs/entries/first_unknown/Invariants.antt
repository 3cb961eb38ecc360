use Rattle.std.proofs.Common.{◌≡◌, map, drop}
use Rattle.rvs_cross.specs.Entries.{first_unknown}
use Rattle.rvs_cross.proofs.entries.first_unknown.Given as goal

abbrev pub invariant-loop-entry : goal.invariant-loop-entry
invariant-loop-entry l = first_unknown (map (λ e. e.now) (drop l.entry-index l.entries))
    ≡ first_unknown (map (λ e. e.now) l.entries)
