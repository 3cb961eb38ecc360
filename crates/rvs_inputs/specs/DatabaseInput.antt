-- What comes of a database of tests.
use Rattle.std.specs.Prelude.{ℕ, ◌+◌, Bool, ◌&&◌, List, [], ◌∷◌, Option, Result, Ok, Err}
use Rattle.rvs_base.specs.Host.{Files}
use Rattle.rvs_plan.specs.Plan.{Plan, Ends, gives, ◌>>=◌}
use Rattle.rvs_plan.specs.Inputs.{input, part_end}
use Rattle.rvs_plan.specs.Refusing.{end_at}
use Rattle.rvs_plan.specs.declared.stop.Stop.{Stop}
use Rattle.rvs_plan.specs.declared.stop.Stop.TheVariants.{Refused}
use Rattle.rvs_parts.specs.Parts.{PartValue, is_in}
use Rattle.rvs_insn.specs.Isa.{Isa}
use Rattle.rvs_yaml.specs.Parsed.{Parsed, answer}
use Rattle.rvs_select.specs.Database.{database_of}
use Rattle.rvs_select.specs.Print.{refusal_text}
use Rattle.rvs_select.specs.declared.database.Entry.{Entry}
use Rattle.rvs_select.specs.declared.refusal.SelectRefusal.{SelectRefusal}
use Rattle.rvs_inputs.specs.Specification.{yaml_text}
use Rattle.rvs_inputs.specs.GroupFiles.{and_then}

-- a database has at most this many bytes: 4 MiB
abbrev pub database_limit : ℕ
database_limit = 4_194_304

abbrev pub checked_end : List ℕ → Result (List Entry) SelectRefusal → Result (List Entry) Stop
checked_end name found = end_at refusal_text name found

-- the tests in the tree of the named file, or why the file is refused
abbrev pub tree_end : Isa → List ℕ → Parsed → Result (List Entry) Stop
tree_end isa name (Ok tree) = checked_end name (database_of isa tree)
tree_end isa name (Err fault) = Err (Refused (yaml_text name fault.0 fault.1))

abbrev pub checks : Isa → List ℕ → List ℕ → Plan (List Entry)
checks isa name bytes = Ends (tree_end isa name (answer bytes))

-- a database is read, and checked for a core
abbrev pub database_file : Isa → List ℕ → Plan (List Entry)
database_file isa name = do
  bytes ← input database_limit name
  checks isa name bytes

-- over these files, the tests of the named database, or why the command stops there
abbrev pub database_in : Files → Isa → List ℕ → Result (List Entry) Stop
database_in files isa name =
    and_then (part_end database_limit name name database_limit (files name))
    (λ bytes. tree_end isa name (answer bytes))

-- ---- a part of its tests
abbrev pub marked_one : Bool → Entry → Entry
marked_one is entry = record { name = entry.name; selected = entry.selected && is }

-- the tests that are outside a part, where one is asked for, aren't selected; the first of these
-- stands at this place
abbrev pub marked_from : Option PartValue → ℕ → List Entry → List Entry
marked_from part place [] = []
marked_from part place (entry ∷ entries) =
    marked_one (is_in part place) entry ∷ marked_from part (place + 1) entries

abbrev pub marked : Option PartValue → List Entry → List Entry
marked part entries = marked_from part 0 entries

abbrev pub gives_marked : Option PartValue → List Entry → Plan (List Entry)
gives_marked part entries = gives (marked part entries)

abbrev pub marked_file : Option PartValue → Isa → List ℕ → Plan (List Entry)
marked_file part isa name = database_file isa name >>= gives_marked part

abbrev pub marked_in : Files → Option PartValue → Isa → List ℕ → Result (List Entry) Stop
marked_in files part isa name =
    and_then (database_in files isa name) (λ entries. Ok (marked part entries))
