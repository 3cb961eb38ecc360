use Rattle.std.proofs.Common.{◌≡◌, ◌≤◌, ◌+◌, length}
use Rattle.rvs_log.specs.Grammar.{hex_run}
use Rattle.rvs_log.proofs.words.more_digits.Given as goal

abbrev pub invariant-loop-rest : goal.invariant-loop-rest
invariant-loop-rest l = record {
  same : hex_run l.fn.value l.fn.rest ≡ hex_run l.value l.rest;
  count : l.count + length l.rest ≡ l.fn.count + length l.fn.rest;
  few : l.count ≤ 16;
}

abbrev pub decreases-loop-rest : goal.decreases-loop-rest
decreases-loop-rest l = length l.rest
