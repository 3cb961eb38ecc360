-- What comes of an ISA file.
use Rattle.std.specs.Prelude.{ℕ, List, Result, Ok, Err}
use Rattle.rvs_base.specs.Host.{Files}
use Rattle.rvs_plan.specs.Plan.{Plan, Ends, ◌>>=◌}
use Rattle.rvs_plan.specs.Inputs.{input, part_end}
use Rattle.rvs_plan.specs.Refusing.{end_at, input_text}
use Rattle.rvs_plan.specs.declared.stop.Stop.{Stop}
use Rattle.rvs_plan.specs.declared.stop.Stop.TheVariants.{Refused}
use Rattle.rvs_yaml.specs.Parsed.{Parsed, answer}
use Rattle.rvs_yaml.specs.Refusing.{refusal_text as tree_text}
use Rattle.rvs_yaml_text.specs.declared.kind.YamlKind.{YamlKind}
use Rattle.rvs_isa.specs.Check.{checked}
use Rattle.rvs_isa.specs.Print.{refusal_text}
use Rattle.rvs_isa.specs.declared.accepted_spec.AcceptedSpec.{AcceptedSpec}
use Rattle.rvs_isa.specs.declared.refusal.IsaRefusal.{IsaRefusal}

-- an ISA file has at most this many bytes: 64 KiB
abbrev pub isa_limit : ℕ
isa_limit = 65536

-- why the named file has no tree: its first faulty line, counted from 1, and the number of the
-- fault's kind
abbrev pub yaml_text : List ℕ → ℕ → YamlKind → List ℕ
yaml_text name line kind = input_text name (tree_text (line, kind))

abbrev pub checked_end : List ℕ → Result AcceptedSpec IsaRefusal → Result AcceptedSpec Stop
checked_end name found = end_at refusal_text name found

-- what the tree of the named file says, or why the file is refused
abbrev pub tree_end : List ℕ → Parsed → Result AcceptedSpec Stop
tree_end name (Ok tree) = checked_end name (checked tree)
tree_end name (Err fault) = Err (Refused (yaml_text name fault.0 fault.1))

abbrev pub checks : List ℕ → List ℕ → Plan AcceptedSpec
checks name bytes = Ends (tree_end name (answer bytes))

-- an ISA file is read and checked
abbrev pub specification : List ℕ → Plan AcceptedSpec
specification name = do
  bytes ← input isa_limit name
  checks name bytes

-- what comes of the bytes of a file, or why the command stops there
abbrev pub bytes_said : List ℕ → Result (List ℕ) Stop → Result AcceptedSpec Stop
bytes_said name (Ok bytes) = tree_end name (answer bytes)
bytes_said name (Err stop) = Err stop

-- over these files, what the named ISA file says, or why the command stops there
abbrev pub said_in : Files → List ℕ → Result AcceptedSpec Stop
said_in files name = bytes_said name (part_end isa_limit name name isa_limit (files name))
