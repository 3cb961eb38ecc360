use Rattle.std.proofs.Common.{◌≡◌, bytes_eq, drop}
use Rattle.std.specs.List.{list_all, list_any}
use Rattle.rvs_words.proofs.words.are_known.Given as goal

abbrev pub invariant-loop-pair : goal.invariant-loop-pair
invariant-loop-pair l =
    list_all (λ pair. list_any (λ name. bytes_eq pair.name name.now) l.names)
    (drop l.pair-index l.pairs)
    ≡ list_all (λ pair. list_any (λ name. bytes_eq pair.name name.now) l.names) l.pairs
