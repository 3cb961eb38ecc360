use Rattle.rvs_sig.proofs.Worths.{Filled}
use Rattle.rvs_sig.proofs.digits.worths.Given as goal

abbrev pub invariant-loop-byte : goal.invariant-loop-byte
invariant-loop-byte l = Filled l.worths l.byte
