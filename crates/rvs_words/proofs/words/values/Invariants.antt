use Rattle.std.proofs.Common.{◌≡◌, take}
use Rattle.rvs_words.specs.Words.{values_of}
use Rattle.rvs_words.proofs.words.values.Given as goal

abbrev pub invariant-loop-pair : goal.invariant-loop-pair
invariant-loop-pair l = l.values ≡ values_of l.name (take l.pair-index l.pairs)
