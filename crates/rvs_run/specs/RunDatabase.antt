-- What `run` does over a database.
use Rattle.std.specs.Prelude.{ℕ, suc, Bool, true, false, List, [], ◌∷◌}
use Rattle.rvs_plan.specs.Plan.{Plan, gives, ◌>>=◌}
use Rattle.rvs_plan.specs.declared.status.Finish.{Finish}
use Rattle.rvs_insn.specs.Isa.{Isa}
use Rattle.rvs_device.specs.DeviceFile.{Told}
use Rattle.rvs_select.specs.declared.database.Entry.{Entry}
use Rattle.rvs_inputs.specs.DatabaseInput.{marked_file}
use Rattle.rvs_inputs.specs.DeviceInput.{device_file}
use Rattle.rvs_run.specs.RunTests.{Bench, judges_tests}
use Rattle.rvs_inputs.specs.Specification.{specification}
use Rattle.rvs_generate.specs.Tests.{to_read}
use Rattle.rvs_generate.specs.declared.sources.Given.{Given}
use Rattle.rvs_words.specs.declared.command.RunDatabaseArguments.{RunDatabaseArguments}

-- ---- the selected tests
abbrev pub chosen_if : Bool → Given → List Given → List Given
chosen_if true given rest = given ∷ rest
chosen_if false given rest = rest

-- a test at this place, where it is selected
abbrev pub chosen_one : ℕ → Entry → List Given
chosen_one place entry =
    chosen_if entry.selected (record { place = place; name = entry.name }) []

-- the selected tests among these, of which the first stands at this place
abbrev pub chosen : ℕ → List Entry → List Given
chosen place [] = []
chosen place (entry ∷ entries) =
    chosen_if entry.selected (record { place = place; name = entry.name })
    (chosen (suc place) entries)

-- ---- the whole
-- a core, the tests of a database, and a device
pub record DatabaseInputs : Type 0 where
  pub isa : Isa
  pub entries : List Entry
  pub device : Told

abbrev pub with_device : Isa → List Entry → Told → Plan DatabaseInputs
with_device isa entries told = gives (record { isa = isa; entries = entries; device = told })

abbrev pub device_behind : List ℕ → Isa → List Entry → Plan DatabaseInputs
device_behind device isa entries = device_file device >>= with_device isa entries

abbrev pub database_behind : RunDatabaseArguments → Isa → Plan DatabaseInputs
database_behind asked isa =
    marked_file asked.part isa asked.database >>= device_behind asked.device isa

-- the ISA file is read and checked, then the database, and then the device file
abbrev pub database_inputs : RunDatabaseArguments → Plan DatabaseInputs
database_inputs asked = do
  said ← specification asked.isa
  database_behind asked said.spec

abbrev pub database_bench : List ℕ → List ℕ → DatabaseInputs → Bench
database_bench program work inputs =
    record { program = program; device = inputs.device; work = work; isa = inputs.isa }

abbrev pub runs_database : List ℕ → List ℕ → DatabaseInputs → Plan Finish
runs_database program work inputs =
    judges_tests (database_bench program work inputs) (to_read (chosen 0 inputs.entries))

-- all inputs are read and checked, and then each selected test is read, run and judged
abbrev pub run_database : RunDatabaseArguments → Plan Finish
run_database asked = do
  inputs ← database_inputs asked
  runs_database asked.program asked.work inputs
