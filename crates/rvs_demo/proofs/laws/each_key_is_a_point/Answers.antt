use Rattle.rvs_demo.proofs.Counted.{counted}
use Rattle.rvs_demo.proofs.laws.each_key_is_a_point.Goals as goal

pub returns : goal.returns
returns c = counted
