-- What a refusal says.
use Rattle.std.specs.Prelude.{ℕ, List, ◌++◌, codes, decimal}
use Rattle.rvs_base.specs.declared.fault.Fault.{Fault}
use Rattle.rvs_base.specs.declared.fault.Fault.TheVariants.{Refused, NoMemory}
use Rattle.rvs_yaml.specs.declared.refusal.YamlRefusal.{YamlRefusal}
use Rattle.rvs_yaml_text.specs.Kinds.{number_of}
use Rattle.rvs_yaml_text.specs.declared.kind.YamlKind.{YamlKind}

-- the line and the kind of the answer
abbrev pub refusal_view : YamlRefusal → ℕ × YamlKind
refusal_view refusal = (refusal.line, refusal.kind)

-- the number of the kind, and the line
abbrev pub refusal_text : ℕ × YamlKind → List ℕ
refusal_text refusal =
    codes "yaml " ++ (decimal (number_of refusal.1) ++ (codes " line " ++ decimal refusal.0))

-- the refusal of a line, or want of memory
abbrev pub at_line : ℕ → Fault YamlKind → Fault YamlRefusal
at_line line (Refused kind) = Refused (record { line = line; kind = kind })
at_line line NoMemory = NoMemory
