use Rattle.rvs_index.specs.Cells.{AreBound}
use Rattle.rvs_index.proofs.bounded.bound_of.Given as goal

abbrev pub invariant-loop-slot : goal.invariant-loop-slot
invariant-loop-slot l = AreBound l.slot-index l.asked l.slots l.first l.second
