-- The facts of an instruction in a log.
use Rattle.std.specs.Prelude.{ℕ, List, Option, Some, None}
use Rattle.rvs_expr.specs.Meaning.{Table, nothing}
use Rattle.rvs_facts.specs.Facts.{facts_of}
use Rattle.rvs_insn.specs.Fields.{Fields}
use Rattle.rvs_machine.specs.Traces.{word_of}

-- by the words that the registers held before it; a word that is no instruction has none
abbrev pub facts_before : Option Fields → List ℕ → Table
facts_before None words = nothing
facts_before (Some i) words = facts_of i (word_of words i.rs1) (word_of words i.rs2)
