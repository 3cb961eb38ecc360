-- What every call of `reference` promises.
use Rattle.std.specs.Prelude.{◌≡◌, ◌≢◌, ◌⊎◌, List, ℕ, Some, map}
use Rattle.rvs_base.specs.Host.{Files, Tells}
use Rattle.rvs_plan.specs.declared.status.Status.TheVariants.{Done, NotPassed, Refused, HostFault}
use Rattle.rvs_log.specs.Entries.{entries_of}
use Rattle.rvs_log.specs.Logs.{log_of, as_entry}
use Rattle.rvs_promises.specs.Call.{Call, world_of, Asks, NothingFailed, HostRose, AnswersOnly}
use Rattle.rvs_promises.specs.Halting.{BothHalt, HoldsOctets}
use Rattle.rvs_uses.specs.Refusals.{HasRefused, HasMissed}
use Rattle.rvs_uses.specs.Halting.{HasRecorded, FirstRefused, FirstMissing}
use Rattle.rvs_reference.specs.declared.test_run.Run.{Run}
use Rattle.rvs_words.specs.declared.command.Command.TheVariants.{Reference}
use Rattle.rvs_words.specs.declared.command.ReferenceArguments.{ReferenceArguments}

-- a call of `reference` on these two of these files, for these outputs
pub record Refers (call : Call) (files : Files) (asked : ReferenceArguments) : Type 0 where
  -- it is done where the ISA file is accepted and the test halts, and has then written the
  -- signature and the log and put its line; it has no other verdict
  pub done : call.status ≡ Done
      → HasRecorded files asked (world_of call.old) (world_of call.new)
  pub no_verdict : call.status ≢ NotPassed
  pub by_inputs : (run : Run) → BothHalt files asked.isa asked.test asked.steps run
      → NothingFailed call
      → AnswersOnly call Done
  -- the entries of the log are the executed instructions, the store that halts included
  pub logged : (run : Run) → BothHalt files asked.isa asked.test asked.steps run
      → HoldsOctets files asked.test
      → entries_of (log_of run.trace) ≡ map as_entry run.trace
  -- it is refused where the first file that isn't accepted is refused, or the test traps or doesn't
  -- halt, and says why; nothing is written
  pub refused : call.status ≡ Refused
      → HasRefused call (FirstRefused files asked.isa asked.test asked.steps)
  pub refused_files : call.status ≡ Refused → call.new.host.files ≡ Some files
  pub refused_output : call.status ≡ Refused → call.new.out.bytes ≡ call.old.out.bytes
  pub by_refusal : (text : List ℕ) → FirstRefused files asked.isa asked.test asked.steps text
      → NothingFailed call
      → AnswersOnly call Refused
  -- the host fails where a count rose, or where the first file that isn't accepted isn't there
  pub absent : call.status ≡ HostFault
      → HasMissed call (FirstMissing files asked.isa asked.test) ⊎ HostRose call
  pub by_absence : (name : List ℕ) → FirstMissing files asked.isa asked.test name
      → NothingFailed call
      → AnswersOnly call HostFault
  -- it writes no file but those of the signature and the log, however it ends
  pub others_kept : (files' : Files) (other : List ℕ) → other ≢ asked.signature
      → asked.log ≢ Some other
      → call.new.host.files ≡ Some files' → files' other ≡ files other

-- the same of every call: over told files, where its words ask for `reference`
abbrev pub Promise : Call → Type 0
Promise call =
    (files : Files) (asked : ReferenceArguments)
    → Tells call.old.host files → Asks call (Reference asked)
    → Refers call files asked
