use Rattle.std.proofs.Common.{length}
use Rattle.rvs_cross.proofs.used.+assigns_once.Given as goal

abbrev pub decreases-assigns_once : goal.decreases-assigns_once
decreases-assigns_once l = length l.places.now
