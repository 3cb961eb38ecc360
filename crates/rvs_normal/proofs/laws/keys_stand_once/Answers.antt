use Rattle.rvs_normal.proofs.ReadAgain.{answer-owned}
use Rattle.rvs_normal.proofs.laws.keys_stand_once.Goals as goal

pub returns : goal.returns
returns c bytes tree h = answer-owned bytes tree h
