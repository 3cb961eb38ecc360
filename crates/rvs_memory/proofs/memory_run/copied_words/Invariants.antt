use Rattle.std.proofs.Common.{◌≡◌, take}
use Rattle.rvs_base.specs.Host.{device_words}
use Rattle.rvs_memory.proofs.memory_run.copied_words.Given as goal

abbrev pub invariant-loop-word : goal.invariant-loop-word
invariant-loop-word l = l.copied ≡ device_words (take l.word-index l.words)
