use Rattle.std.proofs.Common.{length}
use Rattle.rvs_cross.proofs.used.+once_among.Given as goal

abbrev pub decreases-once_among : goal.decreases-once_among
decreases-once_among l = length l.sets.now
