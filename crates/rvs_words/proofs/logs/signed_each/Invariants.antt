use Rattle.std.proofs.Common.{◌≡◌, ◌++◌, drop}
use Rattle.rvs_words.specs.LogWords.{signed_each}
use Rattle.rvs_words.proofs.logs.signed_each.Given as goal

abbrev pub invariant-loop-name : goal.invariant-loop-name
invariant-loop-name l =
    l.logs ++ signed_each (drop l.name-index l.names) l.left ≡ signed_each l.names l.ranges
