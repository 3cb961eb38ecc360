use Rattle.rvs_index.specs.Shared.{AreAlike}
use Rattle.rvs_index.proofs.alike.is_alike.Given as goal

abbrev pub invariant-loop-bucket : goal.invariant-loop-bucket
invariant-loop-bucket l = AreAlike l.bucket l.cells l.left l.right
