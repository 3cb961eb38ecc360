use Rattle.rvs_words.proofs.laws.commands_are_read.Goals as goal
use Rattle.rvs_words.proofs.CommandWords.{compares_are_read, validates_are_read}
use Rattle.rvs_words.proofs.CommandWords.{normalizes_are_read, generates_are_read}
use Rattle.rvs_words.proofs.CommandWords.{references_are_read, runs_are_read, demos_are_read}
use Rattle.rvs_words.proofs.LogCommands.{coverages_are_read, propagates_are_read}
use Rattle.rvs_words.proofs.ReportWords.{reports_are_read}
use Rattle.rvs_words.proofs.DatabaseWords.{runs_over_databases_are_read, runs_have_one_source}
use Rattle.rvs_words.proofs.DatabaseWords.{databases_have_no_families, selects_are_read}

pub returns-clause-compare : goal.returns-clause-compare
returns-clause-compare c = compares_are_read

pub returns-clause-validate : goal.returns-clause-validate
returns-clause-validate c = validates_are_read

pub returns-clause-normalize : goal.returns-clause-normalize
returns-clause-normalize c = normalizes_are_read

pub returns-clause-generate : goal.returns-clause-generate
returns-clause-generate c = generates_are_read

pub returns-clause-reference : goal.returns-clause-reference
returns-clause-reference c = references_are_read

pub returns-clause-coverage : goal.returns-clause-coverage
returns-clause-coverage c = coverages_are_read

pub returns-clause-propagate : goal.returns-clause-propagate
returns-clause-propagate c = propagates_are_read

pub returns-clause-run : goal.returns-clause-run
returns-clause-run c = runs_are_read

pub returns-clause-run_database : goal.returns-clause-run_database
returns-clause-run_database c = runs_over_databases_are_read

pub returns-clause-run_source : goal.returns-clause-run_source
returns-clause-run_source c = runs_have_one_source

pub returns-clause-run_families : goal.returns-clause-run_families
returns-clause-run_families c = databases_have_no_families

pub returns-clause-report : goal.returns-clause-report
returns-clause-report c = reports_are_read

pub returns-clause-select : goal.returns-clause-select
returns-clause-select c = selects_are_read

pub returns-clause-demo : goal.returns-clause-demo
returns-clause-demo c = demos_are_read
