-- What every call of `select` promises.
use Rattle.std.specs.Prelude.{◌≡◌, ◌≤◌, ℕ, List, length, Some, Ok}
use Rattle.rvs_base.specs.Host.{Files, Tells}
use Rattle.rvs_base.specs.Sink.{appended}
use Rattle.rvs_insn.specs.Isa.{Isa}
use Rattle.rvs_tree.specs.Data.{Data, own_pairs}
use Rattle.rvs_yaml.specs.Parsed.{answer}
use Rattle.rvs_isa.specs.declared.accepted_spec.AcceptedSpec.{AcceptedSpec}
use Rattle.rvs_select.specs.Database.{entries_of, most_tests}
use Rattle.rvs_select.specs.Print.{selection_text}
use Rattle.rvs_select.specs.declared.database.Entry.{Entry}
use Rattle.rvs_promises.specs.Answered.{Answered, OnDone}
use Rattle.rvs_promises.specs.Call.{Call, Asks}
use Rattle.rvs_inputs.specs.DatabaseInput.{database_limit}
use Rattle.rvs_plain.specs.Select.{selection_in}
use Rattle.rvs_inputs.specs.Specification.{said_in}
use Rattle.rvs_words.specs.declared.command.Command.TheVariants.{Select}
use Rattle.rvs_words.specs.declared.command.SelectArguments.{SelectArguments}

-- the output has a line for each test, and one with how many are selected
abbrev pub HasPrinted : Call → List Entry → Type 0
HasPrinted call entries =
    call.new.out.bytes ≡ appended call.old.out.bytes (selection_text entries)

-- The named file is there, within its limit, and has a tree whose entries are these tests. A test
-- is selected where one of its parts holds on this core, and a part holds where all its checks do.
pub record HoldsTests (files : Files) (isa : Isa) (name : List ℕ) (entries : List Entry) : Type
    0 where
  pub bytes : List ℕ
  pub there : files name ≡ Some bytes
  pub within : length bytes ≤ database_limit
  pub tree : Data
  pub has_tree : answer bytes ≡ Ok tree
  pub tests : entries ≡ entries_of isa (own_pairs tree)
  pub few : length entries ≤ most_tests

-- a call of `select` on these of these files
pub record Selects (call : Call) (files : Files) (asked : SelectArguments) : Type 0 where
  -- it is done where the ISA file and the database are accepted, and has put the tests; it is
  -- refused, or the host fails, at the first of both that isn't
  pub answered : Answered call (selection_in files asked) (OnDone (HasPrinted call))
  -- the tests are those of the database, in the order of the file
  pub tests : (said : AcceptedSpec) (entries : List Entry) → said_in files asked.isa ≡ Ok said
      → selection_in files asked ≡ Ok entries → HoldsTests files said.spec asked.database entries
  -- it writes no file, however it ends
  pub files_kept : call.new.host.files ≡ call.old.host.files

-- the same of every call: over told files, where its words ask for `select`
abbrev pub Promise : Call → Type 0
Promise call =
    (files : Files) (asked : SelectArguments)
    → Tells call.old.host files → Asks call (Select asked) → Selects call files asked
