use Rattle.rvs_index.specs.Wanted.{AreEmpty}
use Rattle.rvs_index.proofs.wanted.any_point.Given as goal

abbrev pub invariant-loop-number : goal.invariant-loop-number
invariant-loop-number l = AreEmpty l.lists l.from l.number
