-- The log of a run, and what it reads as.
use Rattle.std.specs.Prelude.{◌≡◌, ℕ, List, [], ◌∷◌, ◌++◌, All, map}
use Rattle.std.specs.List.{flat_map}
use Rattle.rvs_machine.specs.declared.event.Executed.{Executed}
use Rattle.rvs_machine.specs.Traces.{Follows}
use Rattle.rvs_log.specs.Entries.{Entry, entries_of}
use Rattle.rvs_log.specs.Registers.{zeros}
use Rattle.rvs_log.specs.Written.{line_of, HasWords}

-- a line for each instruction
abbrev pub log_of : List Executed → List ℕ
log_of trace = flat_map (λ e. line_of e ++ 10 ∷ []) trace

abbrev pub as_entry : Executed → Entry
as_entry e = record { pc = e.pc; word = e.word; v1 = e.v1; v2 = e.v2 }

-- the log of instructions that ran one after another, from registers of 0 on, has these as its
-- entries
abbrev pub LogsReadBack : Type 0
LogsReadBack =
    (trace : List Executed) → All HasWords trace → Follows zeros trace
    → entries_of (log_of trace) ≡ map as_entry trace

-- where two instructions differ in what is written, their lines differ
abbrev pub LinesDiffer : Type 0
LinesDiffer =
    (a b : Executed) → HasWords a → HasWords b → line_of a ≡ line_of b
    → (a.pc ≡ b.pc) × (a.word ≡ b.word) × (a.commit ≡ b.commit)
