use Rattle.std.proofs.Common.{◌≡◌, ◌++◌, drop}
use Rattle.rvs_coverage.specs.LogLines.{log_lines}
use Rattle.rvs_coverage.proofs.log_lines.log_lines.Given as goal

abbrev pub invariant-loop-name : goal.invariant-loop-name
invariant-loop-name l =
    l.text ++ log_lines (drop l.name-index l.names) l.left ≡ log_lines l.names l.ran
