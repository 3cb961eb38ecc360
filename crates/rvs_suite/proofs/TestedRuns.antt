-- That what `run` accepts, it accepts of the same files.
use Rattle.std.proofs.Common.{◌≡◌, Result, Ok, IfOk, arith}
use Rattle.rvs_base.specs.Host.{Files}
use Rattle.rvs_plan.specs.declared.stop.Stop.{Stop}
use Rattle.rvs_device.specs.DeviceFile.{Told}
use Rattle.rvs_inputs.specs.GroupFiles.{Inputs, and_then}
use Rattle.rvs_generate.specs.TestedInputs.{labels_in}
use Rattle.rvs_run.specs.RunTests.{RunInputs}
use Rattle.rvs_promises.specs.Tested.{AreTested}
use Rattle.rvs_promises.proofs.Tested.{tested-labels}
use Rattle.rvs_suite.specs.Judging.{run_inputs_in}
use Rattle.rvs_words.specs.declared.command.RunArguments.{RunArguments}

abbrev with_device : Inputs → Result Told Stop → Result RunInputs Stop
with_device inputs found =
    and_then found (λ told. Ok (record { groups = inputs; device = told }))

groups-of : (groups : Result Inputs Stop) (found : Result Told Stop)
    → IfOk (and_then groups (λ inputs. with_device inputs found))
    (λ (i : RunInputs). groups ≡ Ok i.groups)
groups-of groups found = grind arith

pub groups-accepted : (files : Files) (asked : RunArguments)
    (inputs : RunInputs) → run_inputs_in files asked ≡ Ok inputs
    → labels_in files asked.part asked.isa asked.families asked.groups ≡ Ok inputs.groups
groups-accepted files asked inputs given = grind (arith, groups-of)

pub tested-run : (files : Files) (asked : RunArguments)
    (inputs : RunInputs) → run_inputs_in files asked ≡ Ok inputs
    → AreTested inputs.groups
tested-run files asked inputs given = grind (arith, tested-labels, groups-accepted)
