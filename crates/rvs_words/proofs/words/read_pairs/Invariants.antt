use Rattle.std.proofs.Common.{◌≡◌, ◌++◌, List, length, option_map}
use Rattle.rvs_words.specs.Words.{texts, pairs_of}
use Rattle.rvs_words.specs.declared.words.Pair.{Pair}
use Rattle.rvs_words.proofs.words.read_pairs.Given as goal

abbrev pub invariant-loop-word : goal.invariant-loop-word
invariant-loop-word l = option_map (λ (more : List Pair). l.pairs ++ more) (pairs_of (texts l.rest))
    ≡ pairs_of (texts l.fn.words)

abbrev pub decreases-loop-word : goal.decreases-loop-word
decreases-loop-word l = length l.rest
