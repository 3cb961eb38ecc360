use Rattle.rvs_yaml.specs.StackView.{open_blocks}
use Rattle.rvs_yaml.proofs.Answering.{Reads, size_left}
use Rattle.rvs_yaml.proofs.reader.read_text.Given as goal

abbrev pub invariant-loop-rest : goal.invariant-loop-rest
invariant-loop-rest l = Reads l.bytes l.number l.started (open_blocks l.stack) l.rest

abbrev pub decreases-loop-rest : goal.decreases-loop-rest
decreases-loop-rest l = size_left l.rest
