-- Reading a database: it only reads, and what it finds over given files.
use Rattle.std.proofs.Common.{◌≡◌, ℕ, List, Result, Ok, sym, arith}
use Rattle.rvs_base.specs.Host.{Files}
use Rattle.rvs_plan.specs.Plan.{followed}
use Rattle.rvs_plan.specs.Inputs.{part_end}
use Rattle.rvs_plan.specs.declared.stop.Stop.{Stop}
use Rattle.rvs_insn.specs.Isa.{Isa}
use Rattle.rvs_tree.specs.Data.{Data}
use Rattle.rvs_yaml.specs.Parsed.{Parsed, answer}
use Rattle.rvs_isa.specs.declared.accepted_spec.AcceptedSpec.{AcceptedSpec}
use Rattle.rvs_select.specs.Database.{database_of}
use Rattle.rvs_select.specs.declared.database.Entry.{Entry}
use Rattle.rvs_select.specs.declared.refusal.SelectRefusal.{SelectRefusal}
use Rattle.rvs_select.proofs.Accepted.{accepts, read_few}
use Rattle.rvs_inputs.specs.GroupFiles.{and_then}
use Rattle.rvs_inputs.specs.DatabaseInput.{database_limit, checked_end, tree_end, checks}
use Rattle.rvs_inputs.specs.DatabaseInput.{database_file, database_in}
use Rattle.rvs_plain.specs.Select.{selection_in, reads_selection}
use Rattle.rvs_promises.specs.Selecting.{HoldsTests}
use Rattle.rvs_inputs.specs.Specification.{said_in}
use Rattle.rvs_inputs.proofs.Readers.{OnlyReads}
use Rattle.rvs_inputs.proofs.Finding.{Finds}
use Rattle.rvs_inputs.proofs.GroupInputs.{reads-specification, finds-specification, finds-and_then}
use Rattle.rvs_promises.proofs.Meanings.{then-ok, whole-of}
use Rattle.rvs_words.specs.declared.command.SelectArguments.{SelectArguments}

pub reads-database : (isa : Isa) (name : List ℕ) → OnlyReads (database_file isa name)
reads-database isa name = grind arith

pub reads-selection : (asked : SelectArguments) → OnlyReads (reads_selection asked)
reads-selection asked = grind (arith, reads-specification, reads-database)

told-by : (files : Files) (isa : Isa) (name : List ℕ) (bytes : Result (List ℕ) Stop) → Finds files
    (followed bytes (checks isa name)) (and_then bytes (λ b. tree_end isa name (answer b)))
told-by files isa name bytes = grind arith

pub finds-database : (files : Files) (isa : Isa) (name : List ℕ)
    → Finds files (database_file isa name) (database_in files isa name)
finds-database files isa name = grind (arith, told-by)

pub finds-selection : (files : Files) (asked : SelectArguments)
    → Finds files (reads_selection asked) (selection_in files asked)
finds-selection files asked = grind (arith, finds-and_then, finds-specification, finds-database)

-- ---- what an accepted database holds
tree-of : (isa : Isa) (name : List ℕ) (p : Parsed) (entries : List Entry)
    → tree_end isa name p ≡ Ok entries
    → (tree : Data) × (p ≡ Ok tree) × (checked_end name (database_of isa tree) ≡ Ok entries)
tree-of isa name p entries is = grind arith

checked-of : (name : List ℕ) (r : Result (List Entry) SelectRefusal) (entries : List Entry)
    → checked_end name r ≡ Ok entries → r ≡ Ok entries
checked-of name r entries is = grind arith

pub holds-tests : (files : Files) (isa : Isa) (name : List ℕ) (entries : List Entry)
    → database_in files isa name ≡ Ok entries → HoldsTests files isa name entries
holds-tests files isa name entries is =
    let b = then-ok (part_end database_limit name name database_limit (files name))
    (λ bytes. tree_end isa name (answer bytes)) entries is in
    let p = whole-of database_limit name (files name) b.0 b.1 in
    let t = tree-of isa name (answer b.0) entries b.2 in
    let read = checked-of name (database_of isa t.0) entries t.2 in
    record {
      bytes = b.0;
      there = p.0;
      within = p.1;
      tree = t.0;
      has_tree = t.1;
      tests = sym (accepts isa t.0 entries read).1;
      few = read_few isa t.0 (Ok entries) read;
    }

pub selected-tests : (files : Files) (asked : SelectArguments) (said : AcceptedSpec)
    (entries : List Entry) → said_in files asked.isa ≡ Ok said
    → selection_in files asked ≡ Ok entries → HoldsTests files said.spec asked.database entries
selected-tests files asked said entries says is = grind (arith, holds-tests)
