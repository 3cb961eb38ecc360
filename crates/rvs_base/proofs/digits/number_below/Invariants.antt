use Rattle.std.proofs.Common.{◌≡◌, ◌<◌, drop}
use Rattle.rvs_base.proofs.Spelling.{spelled_after}
use Rattle.rvs_base.proofs.digits.number_below.Given as goal

abbrev pub invariant-loop-byte : goal.invariant-loop-byte
invariant-loop-byte l = record {
  small : l.value < l.limit;
  same : spelled_after l.limit l.radix l.value (drop l.byte-index l.digits)
      ≡ spelled_after l.limit l.radix 0 l.digits;
}
