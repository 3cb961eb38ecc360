use Rattle.std.proofs.Common.{◌≡◌, length}
use Rattle.rvs_index.specs.Wanted.{HasWanted}
use Rattle.rvs_index.proofs.wanted.fill_wanted.Given as goal

abbrev pub invariant-loop-mnemonic : goal.invariant-loop-mnemonic
invariant-loop-mnemonic l = record {
  each : HasWanted l.lists l.wanted;
  count : length l.wanted ≡ l.mnemonic;
}
