use Rattle.rvs_uses.proofs.PartsApart.{parts-are-apart}
use Rattle.rvs_uses.proofs.Parting.{parts-read-all, parts-list, parts-tell}
use Rattle.rvs_uses.proofs.Parting.{parts-count, parts-pass, databases-are-parted}
use Rattle.rvs_uses.proofs.laws.parts_are_the_whole_run.Goals as goal

pub returns-clause-all_read : goal.returns-clause-all_read
returns-clause-all_read c = parts-read-all

pub returns-clause-apart : goal.returns-clause-apart
returns-clause-apart c = parts-are-apart

pub returns-clause-listed : goal.returns-clause-listed
returns-clause-listed c = parts-list

pub returns-clause-told : goal.returns-clause-told
returns-clause-told c = parts-tell

pub returns-clause-counted : goal.returns-clause-counted
returns-clause-counted c = parts-count

pub returns-clause-done : goal.returns-clause-done
returns-clause-done c = parts-pass

pub returns-clause-database : goal.returns-clause-database
returns-clause-database c = databases-are-parted
