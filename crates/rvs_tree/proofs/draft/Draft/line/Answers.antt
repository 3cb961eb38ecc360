use Rattle.rvs_tree.proofs.Bared.{line-is}
use Rattle.rvs_tree.proofs.draft.Draft.line.Goals as goal

pub returns : goal.returns
returns c = line-is c.args.self.now
