-- Reading the inputs of `run`: it only reads, and what it finds over given files.
use Rattle.std.proofs.Common.{ℕ, List, Result, arith}
use Rattle.rvs_base.specs.Host.{Files}
use Rattle.rvs_plan.specs.Plan.{Plan, gives, followed, ◌>>=◌}
use Rattle.rvs_plan.specs.declared.stop.Stop.{Stop}
use Rattle.rvs_yaml.specs.Parsed.{answer}
use Rattle.rvs_device.specs.DeviceFile.{Told}
use Rattle.rvs_inputs.specs.GroupFiles.{Inputs, and_then}
use Rattle.rvs_generate.specs.TestedInputs.{part_inputs}
use Rattle.rvs_inputs.specs.DeviceInput.{tree_end, checks, device_file, device_in}
use Rattle.rvs_run.specs.RunTests.{RunInputs, run_inputs}
use Rattle.rvs_suite.specs.Judging.{run_inputs_in}
use Rattle.rvs_inputs.proofs.Readers.{OnlyReads, OnlyReads-then}
use Rattle.rvs_inputs.proofs.Finding.{Finds}
use Rattle.rvs_promises.proofs.TestedInputs.{reads-labels, finds-labels}
use Rattle.rvs_inputs.proofs.GroupInputs.{finds-and_then}
use Rattle.rvs_words.specs.declared.command.RunArguments.{RunArguments}

abbrev with_device : Inputs → Told → Plan RunInputs
with_device inputs told = gives (record { groups = inputs; device = told })

abbrev device_behind : List ℕ → Inputs → Plan RunInputs
device_behind device inputs = device_file device >>= with_device inputs

reads-device : (device : List ℕ) (inputs : Inputs) → OnlyReads (device_behind device inputs)
reads-device device inputs = grind arith

pub reads-run : (asked : RunArguments)
    → OnlyReads (run_inputs asked)
reads-run asked =
    OnlyReads-then (part_inputs asked.part asked.isa asked.families asked.groups)
    (device_behind asked.device)
    (reads-labels asked.part asked.isa asked.families asked.groups) (reads-device asked.device)

told-by : (files : Files) (device : List ℕ) (bytes : Result (List ℕ) Stop) → Finds files
    (followed bytes (checks device)) (and_then bytes (λ b. tree_end device (answer b)))
told-by files device bytes = grind arith

pub finds-device : (files : Files) (device : List ℕ)
    → Finds files (device_file device) (device_in files device)
finds-device files device = grind (arith, told-by)

pub finds-run : (files : Files) (asked : RunArguments)
    → Finds files (run_inputs asked) (run_inputs_in files asked)
finds-run files asked = grind (arith, finds-and_then, finds-labels, finds-device)
