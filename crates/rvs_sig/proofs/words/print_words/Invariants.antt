use Rattle.std.proofs.Common.{◌≡◌, take}
use Rattle.rvs_sig.specs.Words.{text_of_words}
use Rattle.rvs_sig.proofs.words.print_words.Given as goal

abbrev pub invariant-loop-word : goal.invariant-loop-word
invariant-loop-word l = l.bytes.items ≡ text_of_words (take l.word-index l.words)
