use Rattle.rvs_cross.proofs.Rows.{some_entry}
use Rattle.rvs_cross.proofs.parsing.with_entries.Goals as goal

pub with_known-requires-clause-some : goal.with_known-requires-clause-some
with_known-requires-clause-some c =
    some_entry c.args.mnemonics.now c.args.lists.now.mnemonics.now c.requires.mnemonics
