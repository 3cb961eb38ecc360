-- What comes of a device file.
use Rattle.std.specs.Prelude.{ℕ, List, Result, Ok, Err}
use Rattle.rvs_base.specs.Host.{Files}
use Rattle.rvs_plan.specs.Plan.{Plan, Ends, ◌>>=◌}
use Rattle.rvs_plan.specs.Inputs.{input, part_end}
use Rattle.rvs_plan.specs.Refusing.{end_at}
use Rattle.rvs_plan.specs.declared.stop.Stop.{Stop}
use Rattle.rvs_plan.specs.declared.stop.Stop.TheVariants.{Refused}
use Rattle.rvs_yaml.specs.Parsed.{Parsed, answer}
use Rattle.rvs_device.specs.DeviceFile.{Told, told_in}
use Rattle.rvs_device.specs.Printed.{refusal_text}
use Rattle.rvs_device.specs.declared.refusals.DeviceRefusal.{DeviceRefusal}
use Rattle.rvs_inputs.specs.Specification.{yaml_text}
use Rattle.rvs_inputs.specs.GroupFiles.{and_then}

-- a device file has at most this many bytes: 64 KiB
abbrev pub device_limit : ℕ
device_limit = 65536

abbrev pub checked_end : List ℕ → Result Told DeviceRefusal → Result Told Stop
checked_end name found = end_at refusal_text name found

-- the device that the tree of the named file tells, or why the file is refused
abbrev pub tree_end : List ℕ → Parsed → Result Told Stop
tree_end name (Ok tree) = checked_end name (told_in tree)
tree_end name (Err fault) = Err (Refused (yaml_text name fault.0 fault.1))

abbrev pub checks : List ℕ → List ℕ → Plan Told
checks name bytes = Ends (tree_end name (answer bytes))

-- a device file is read and checked
abbrev pub device_file : List ℕ → Plan Told
device_file name = do
  bytes ← input device_limit name
  checks name bytes

-- over these files, the device that the named file tells, or why the command stops there
abbrev pub device_in : Files → List ℕ → Result Told Stop
device_in files name =
    and_then (part_end device_limit name name device_limit (files name))
    (λ bytes. tree_end name (answer bytes))
