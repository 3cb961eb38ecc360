use Rattle.std.proofs.Common.{◌≡◌, drop}
use Rattle.rvs_words.specs.Words.{values_of}
use Rattle.rvs_words.specs.Commands.{is_given}
use Rattle.rvs_words.proofs.database_commands.is_given.Given as goal

abbrev pub invariant-loop-pair : goal.invariant-loop-pair
invariant-loop-pair l = is_given (values_of l.name (drop l.pair-index l.pairs))
    ≡ is_given (values_of l.name l.pairs)
