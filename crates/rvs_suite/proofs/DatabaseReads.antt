-- What a run over a database reads first.
use Rattle.std.proofs.lemmas.Bool.Decides.{nat_tests}
use Rattle.std.proofs.Common.{arith}
use Rattle.rvs_base.specs.Host.{Files}
use Rattle.rvs_inputs.proofs.Finding.{Finds}
use Rattle.rvs_run.specs.RunDatabase.{database_inputs}
use Rattle.rvs_suite.specs.JudgingDatabase.{database_inputs_in}
use Rattle.rvs_words.specs.declared.command.RunDatabaseArguments.{RunDatabaseArguments}

pub finds-database-inputs : (files : Files) (asked : RunDatabaseArguments)
    → Finds files (database_inputs asked) (database_inputs_in files asked)
finds-database-inputs files asked = grind (arith, nat_tests)
