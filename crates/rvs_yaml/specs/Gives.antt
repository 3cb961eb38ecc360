-- What functions that may fail return, against checks.
use Rattle.std.specs.Prelude.{◌≡◌, Result, Ok, Err}
use Rattle.rvs_base.specs.declared.fault.Fault.{Fault}
use Rattle.rvs_base.specs.declared.fault.Fault.TheVariants.{Refused, NoMemory}
use Rattle.rvs_yaml.specs.Checks.{Checked}
use Rattle.rvs_yaml_text.specs.declared.kind.YamlKind.{YamlKind}

abbrev pub Fails : {Y : Type 0} → Fault YamlKind → Checked Y → Type 0
Fails (Refused kind) read = read ≡ Err kind
Fails NoMemory read = Unit {0}

-- What a function that takes no memory returned, seen by see, is what the check gives.
abbrev pub Agrees : {X Y : Type 0} → (X → Y) → Result X YamlKind → Checked Y → Type 0
Agrees see (Ok x) read = read ≡ Ok (see x)
Agrees see (Err kind) read = read ≡ Err kind

-- The same of a function that takes memory, unless memory ran out.
abbrev pub Gives : {X Y : Type 0} → (X → Y) → Result X (Fault YamlKind) → Checked Y → Type 0
Gives see (Ok x) read = read ≡ Ok (see x)
Gives see (Err fault) read = Fails fault read

-- The same, and memory didn't run out.
abbrev pub Decides : {X Y : Type 0} → (X → Y) → Result X (Fault YamlKind) → Checked Y → Type 0
Decides see (Ok x) read = read ≡ Ok (see x)
Decides see (Err (Refused kind)) read = read ≡ Err kind
Decides see (Err NoMemory) read = ⊥

-- Where the check fails, so does the function, however much memory there is.
abbrev pub FailsWith : {X Y : Type 0} → Result X (Fault YamlKind) → Checked Y → Type 0
FailsWith result read = (kind : YamlKind) → read ≡ Err kind → result ≡ Err (Refused kind)
