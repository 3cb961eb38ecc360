-- Reading what tests are made of: it only reads, and what it finds over given files.
use Rattle.std.proofs.Common.{ℕ, List, Option, arith}
use Rattle.rvs_base.specs.Host.{Files}
use Rattle.rvs_abstract.specs.declared.families.Families.{Families}
use Rattle.rvs_plan.specs.Inputs.{part}
use Rattle.rvs_inputs.specs.GroupFiles.{group_inputs}
use Rattle.rvs_generate.specs.TestedInputs.{tested_in, asks_room, tested_inputs}
use Rattle.rvs_generate.specs.TestedInputs.{labels_in, gives_part, part_inputs}
use Rattle.rvs_parts.specs.Parts.{PartValue}
use Rattle.rvs_inputs.proofs.Readers.{OnlyReads, OnlyReads-then}
use Rattle.rvs_inputs.proofs.Finding.{Finds}
use Rattle.rvs_inputs.proofs.GroupInputs.{finds-and_then, finds-inputs, reads-inputs}

pub reads-tested : (isa : List ℕ) (families : Families) (names : List (List ℕ))
    → OnlyReads (tested_inputs isa families names)
reads-tested isa families names =
    OnlyReads-then (group_inputs isa families names) asks_room (reads-inputs isa families names)
    (λ inputs. tt)

pub finds-tested : (files : Files) (isa : List ℕ) (families : Families) (names : List (List ℕ))
    → Finds files (tested_inputs isa families names) (tested_in files isa families names)
finds-tested files isa families names = grind (arith, finds-and_then, finds-inputs)

pub reads-labels : (part : Option PartValue) (isa : List ℕ) (families : Families)
    (names : List (List ℕ))
    → OnlyReads (part_inputs part isa families names)
reads-labels part isa families names =
    OnlyReads-then (tested_inputs isa families names) (gives_part part)
    (reads-tested isa families names) (λ inputs. tt)

pub finds-labels : (files : Files) (part : Option PartValue) (isa : List ℕ) (families : Families)
    (names : List (List ℕ))
    → Finds files (part_inputs part isa families names) (labels_in files part isa families names)
finds-labels files part isa families names = grind (arith, finds-and_then, finds-tested)
