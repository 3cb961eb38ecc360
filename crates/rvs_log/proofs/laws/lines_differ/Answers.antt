use Rattle.rvs_log.proofs.Logs.{lines_differ}
use Rattle.rvs_log.proofs.laws.lines_differ.Goals as goal

pub returns : goal.returns
returns c = lines_differ
