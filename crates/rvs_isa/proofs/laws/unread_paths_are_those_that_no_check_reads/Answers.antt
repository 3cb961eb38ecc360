use Rattle.rvs_isa.proofs.Listed.{unread_are_listed}
use Rattle.rvs_isa.proofs.Alike.{others_change_nothing}
use Rattle.rvs_isa.proofs.Refused.{read_are_refused}
use Rattle.rvs_isa.proofs.laws.unread_paths_are_those_that_no_check_reads.Goals as goal

pub returns-clause-listed : goal.returns-clause-listed
returns-clause-listed c = unread_are_listed

pub returns-clause-others : goal.returns-clause-others
returns-clause-others c = others_change_nothing

pub returns-clause-refused : goal.returns-clause-refused
returns-clause-refused c = read_are_refused
