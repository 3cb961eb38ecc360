use Rattle.std.proofs.Common.{◌≡◌, map, take}
use Rattle.rvs_words.specs.LogWords.{signed_log}
use Rattle.rvs_words.proofs.logs.signed_alike.Given as goal

abbrev pub invariant-loop-name : goal.invariant-loop-name
invariant-loop-name l =
    l.logs ≡ map (λ name. signed_log name l.range) (take l.name-index l.names)
