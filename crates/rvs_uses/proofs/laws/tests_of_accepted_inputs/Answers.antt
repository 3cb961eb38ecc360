use Rattle.rvs_uses.proofs.Made.{tests-run, names-are-apart, texts-are-proved, untested-have-none}
use Rattle.rvs_uses.proofs.Made.{tests-are-runnable, executables-run, runs-accept}
use Rattle.rvs_uses.proofs.laws.tests_of_accepted_inputs.Goals as goal

pub returns-clause-tested : goal.returns-clause-tested
returns-clause-tested c = tests-run

pub returns-clause-apart : goal.returns-clause-apart
returns-clause-apart c = names-are-apart

pub returns-clause-proved : goal.returns-clause-proved
returns-clause-proved c = texts-are-proved

pub returns-clause-untested : goal.returns-clause-untested
returns-clause-untested c = untested-have-none

pub returns-clause-runnable : goal.returns-clause-runnable
returns-clause-runnable c = tests-are-runnable

pub returns-clause-executables : goal.returns-clause-executables
returns-clause-executables c = executables-run

pub returns-clause-by_run : goal.returns-clause-by_run
returns-clause-by_run c = runs-accept
