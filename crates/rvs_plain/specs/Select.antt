-- What `select` does.
use Rattle.std.specs.Prelude.{List, Result}
use Rattle.rvs_base.specs.Host.{Files}
use Rattle.rvs_plan.specs.Plan.{Plan, ◌>>=◌}
use Rattle.rvs_plan.specs.declared.stop.Stop.{Stop}
use Rattle.rvs_plan.specs.declared.status.Finish.{Finish}
use Rattle.rvs_select.specs.Print.{selection_text}
use Rattle.rvs_select.specs.declared.database.Entry.{Entry}
use Rattle.rvs_inputs.specs.DatabaseInput.{database_file, database_in}
use Rattle.rvs_inputs.specs.GroupFiles.{and_then}
use Rattle.rvs_inputs.specs.Printing.{print_text}
use Rattle.rvs_inputs.specs.Specification.{said_in, specification}
use Rattle.rvs_words.specs.declared.command.SelectArguments.{SelectArguments}

-- over these files, the tests of the database for the core of the ISA file, or the first of both
-- files that isn't there or is refused
abbrev pub selection_in : Files → SelectArguments → Result (List Entry) Stop
selection_in files asked =
    and_then (said_in files asked.isa) (λ said. database_in files said.spec asked.database)

-- the ISA file is read and checked, and then the database is
abbrev pub reads_selection : SelectArguments → Plan (List Entry)
reads_selection asked = do
  said ← specification asked.isa
  database_file said.spec asked.database

-- each test is put with whether it is selected
abbrev pub print_selection : List Entry → Plan Finish
print_selection entries = print_text (selection_text entries)

abbrev pub select : SelectArguments → Plan Finish
select asked = do
  entries ← reads_selection asked
  print_selection entries
