use Rattle.std.proofs.Common.{◌≡◌, map, drop}
use Rattle.rvs_cross.specs.CrossView.{place_view}
use Rattle.rvs_cross.specs.Assigned.{assigned}
use Rattle.rvs_cross.proofs.matching.assigned.Given as goal

abbrev pub invariant-loop-k : goal.invariant-loop-k
invariant-loop-k l =
    assigned l.variable (map place_view l.places) l.window
    ≡ assigned l.variable (map place_view (drop l.k l.places)) (drop l.k l.window)
