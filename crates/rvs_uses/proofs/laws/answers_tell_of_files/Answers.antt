use Rattle.rvs_uses.proofs.Compares.{compares-files}
use Rattle.rvs_uses.proofs.Validates.{validates-file}
use Rattle.rvs_uses.proofs.References.{refers-to-files}
use Rattle.rvs_uses.proofs.laws.answers_tell_of_files.Goals as goal

pub returns-clause-compare : goal.returns-clause-compare
returns-clause-compare c = compares-files

pub returns-clause-validate : goal.returns-clause-validate
returns-clause-validate c = validates-file

pub returns-clause-reference : goal.returns-clause-reference
returns-clause-reference c = refers-to-files
