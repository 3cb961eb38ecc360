use Rattle.rvs_yaml.proofs.Chaining.{Looked}
use Rattle.rvs_yaml.proofs.chain.root_of.Given as goal

abbrev pub invariant-loop-i : goal.invariant-loop-i
invariant-loop-i l = Looked l.blocks l.i l.root l.end

abbrev pub decreases-loop-i : goal.decreases-loop-i
decreases-loop-i l = l.i
