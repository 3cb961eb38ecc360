use Rattle.std.proofs.Common.{◌≡◌, take}
use Rattle.rvs_log.specs.Logs.{log_of}
use Rattle.rvs_reference.proofs.reference.log_lines.Given as goal

abbrev pub invariant-loop-executed : goal.invariant-loop-executed
invariant-loop-executed l = l.lines.items ≡ log_of (take l.executed-index l.trace)
