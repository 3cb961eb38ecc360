use Rattle.rvs_tree.proofs.Depths.{brought-within}
use Rattle.rvs_tree.proofs.entry_list.EntryList.brought.Goals as goal

pub returns-else-merges-clause-bound : goal.returns-else-merges-clause-bound
returns-else-merges-clause-bound c = brought-within _ c.args.merges _ _ c.args.value.now.bounded
