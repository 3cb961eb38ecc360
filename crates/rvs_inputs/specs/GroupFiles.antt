-- What comes of coverage group files, which are joined and read as one text.
use Rattle.std.specs.Prelude.{ℕ, ◌+◌, ◌-◌, nat_lt, if◌then◌else◌, List, [], ◌∷◌, ◌++◌, length}
use Rattle.std.specs.Prelude.{Option, Some, None, unwrap_or, Result, Ok, Err}
use Rattle.rvs_base.specs.Host.{Files}
use Rattle.rvs_abstract.specs.declared.families.Families.{Families}
use Rattle.rvs_plan.specs.Plan.{Plan, Ends, gives, ◌>>=◌}
use Rattle.rvs_plan.specs.Inputs.{part, too_long_text}
use Rattle.rvs_plan.specs.Refusing.{end_at}
use Rattle.rvs_plan.specs.declared.stop.Stop.{Stop}
use Rattle.rvs_plan.specs.declared.stop.Stop.TheVariants.{Refused, NoFile}
use Rattle.rvs_yaml.specs.Parsed.{Parsed, answer}
use Rattle.rvs_insn.specs.Isa.{Isa}
use Rattle.rvs_cgf.specs.Groups.{Label, Refusal, groups_of}
use Rattle.rvs_cgf.specs.Print.{refusal_text}
use Rattle.rvs_inputs.specs.Specification.{yaml_text, said_in, specification}
use Rattle.rvs_parts.specs.Parts.{PartValue, parted}
use Rattle.rvs_inputs.specs.GroupTexts.{groups_name}

-- all group files together, with the line feeds between them, have at most this many bytes: 4 MiB
abbrev pub groups_limit : ℕ
groups_limit = 4_194_304

-- the files so far, with the next behind a line feed
abbrev pub joined : Option (List ℕ) → List ℕ → List ℕ
joined None bytes = bytes
joined (Some front) bytes = front ++ 10 ∷ bytes

-- a joined text keeps the limit
abbrev pub within_limit : List ℕ → Result (List ℕ) Stop
within_limit text =
    if nat_lt groups_limit (length text) then Err (Refused (too_long_text groups_name groups_limit))
    else Ok text

-- ---- over given files
abbrev pub join_found : Option (List ℕ) → List ℕ → Option (List ℕ) → Result (List ℕ) Stop
join_found front name None = Err (NoFile name)
join_found front name (Some bytes) = within_limit (joined front bytes)

abbrev pub and_then : {A B : Type 0} → Result A Stop → (A → Result B Stop) → Result B Stop
and_then (Ok a) next = next a
and_then (Err stop) next = Err stop

-- the text of the named files, joined in order; the first that isn't there, or passes the limit, is
-- told
abbrev pub text_in : Files → Option (List ℕ) → List (List ℕ) → Result (List ℕ) Stop
text_in files front [] = Ok (unwrap_or front [])
text_in files front (name ∷ names) =
    and_then (join_found front name (files name)) (λ text. text_in files (Some text) names)

abbrev pub checked_groups : Result (List Label) Refusal → Result (List Label) Stop
checked_groups found = end_at refusal_text groups_name found

abbrev pub tree_groups : Isa → Families → Parsed → Result (List Label) Stop
tree_groups isa families (Ok tree) = checked_groups (groups_of isa families tree)
tree_groups isa families (Err fault) = Err (Refused (yaml_text groups_name fault.0 fault.1))

-- the groups of a text for a core, by the families that are read, or why it is refused
abbrev pub groups_found : Isa → Families → List ℕ → Result (List Label) Stop
groups_found isa families text = tree_groups isa families (answer text)

-- a core, and the groups of the group files for it
pub record Inputs : Type 0 where
  pub isa : Isa
  pub groups : List Label

abbrev pub inputs_of : Isa → Result (List Label) Stop → Result Inputs Stop
inputs_of isa (Ok groups) = Ok (record { isa = isa; groups = groups })
inputs_of isa (Err stop) = Err stop

-- what the ISA file and the group files give, or the first of them that isn't there or is refused
abbrev pub inputs_in : Files → List ℕ → Families → List (List ℕ) → Result Inputs Stop
inputs_in files isa families names = and_then (said_in files isa) (λ said. and_then
    (text_in files None names) (λ text. inputs_of said.spec (groups_found said.spec families text)))

-- the labels of a part, where one is asked for
abbrev pub parted_inputs : Option PartValue → Inputs → Inputs
parted_inputs part inputs = record { isa = inputs.isa; groups = parted part inputs.groups }

-- ---- as plans
-- what the files so far leave of the limit, for the next and the line feed before it
abbrev pub room : Option (List ℕ) → ℕ
room None = groups_limit
room (Some front) = groups_limit - (length front + 1)

abbrev pub joins : Option (List ℕ) → List ℕ → Plan (List ℕ)
joins front name = do
  bytes ← part (room front) name groups_name groups_limit
  Ends (within_limit (joined front bytes))

-- the files are read in order, and each is joined to those before it
abbrev pub joins_all : Option (List ℕ) → List (List ℕ) → Plan (List ℕ)
joins_all front [] = gives (unwrap_or front [])
joins_all front (name ∷ names) = joins front name >>= (λ text. joins_all (Some text) names)

-- the group files are read, and then checked as one text
abbrev pub group_files : Isa → Families → List (List ℕ) → Plan (List Label)
group_files isa families names = do
  text ← joins_all None names
  Ends (groups_found isa families text)

-- the ISA file is read and checked, and then the group files are, for its core
abbrev pub group_inputs : List ℕ → Families → List (List ℕ) → Plan Inputs
group_inputs isa families names = do
  said ← specification isa
  groups ← group_files said.spec families names
  gives (record { isa = said.spec; groups = groups })
