use Rattle.std.proofs.Common.{length}
use Rattle.rvs_sig.proofs.Counting.{HasWords}
use Rattle.rvs_sig.proofs.words.read_words.Given as goal

abbrev pub invariant-loop-word : goal.invariant-loop-word
invariant-loop-word l = HasWords l.bytes l.left l.line l.words

abbrev pub decreases-loop-word : goal.decreases-loop-word
decreases-loop-word l = length l.left
