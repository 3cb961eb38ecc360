use Rattle.rvs_cgf.proofs.ReadBack.{spelled_is_read}
use Rattle.rvs_cgf.proofs.laws.spelled_groups_are_read.Goals as goal

pub returns : goal.returns
returns c isa other families groups tree can admits spells =
    spelled_is_read isa other families groups tree can admits spells
