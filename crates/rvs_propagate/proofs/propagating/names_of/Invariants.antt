use Rattle.std.proofs.Common.{◌≡◌, map, take}
use Rattle.rvs_propagate.specs.Propagate.{file_name}
use Rattle.rvs_propagate.proofs.propagating.names_of.Given as goal

abbrev pub invariant-loop-log : goal.invariant-loop-log
invariant-loop-log l = l.names ≡ map file_name (take l.log-index l.logs)
