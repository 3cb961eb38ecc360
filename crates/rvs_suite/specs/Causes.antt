-- What every call promises of its answer, over any host and any sinks.
use Rattle.std.specs.Prelude.{◌≡◌, ◌≢◌, ◌⊎◌, true, false, List, ℕ, [], codes}
use Rattle.rvs_base.specs.Faults.{raised}
use Rattle.rvs_base.specs.Host.{is_told}
use Rattle.rvs_plan.specs.World.{Later, LaterSink, Absence, Failing, Reading, Writing, Running}
use Rattle.rvs_plan.specs.World.{Putting, NoneFaulted, FirstFault, FirstAbsence}
use Rattle.rvs_plan.specs.Plan.{Plan}
use Rattle.rvs_plan.specs.Reads.{ReadsOnWay}
use Rattle.rvs_base.specs.Sink.{appended}
use Rattle.rvs_plan.specs.Account.{NoneChanged, fault_line}
use Rattle.rvs_plan.specs.declared.status.Finish.{Finish}
use Rattle.rvs_plan.specs.declared.status.Status.TheVariants as answer
use Rattle.rvs_words.specs.Commands.{command_of}
use Rattle.rvs_suite.specs.Plans.{absence_of, effects_of}
use Rattle.rvs_promises.specs.Call.{Call, world_of, Asks, HostRose}
use Rattle.rvs_words.specs.declared.command.Command.TheVariants.{Unknown}

-- the sink for errors has this line more
abbrev pub HasLine : Call → List ℕ → List ℕ → Type 0
HasLine call what which = call.new.err.bytes ≡ appended call.old.err.bytes (fault_line what which)

-- what it is to the command of a call that a file isn't there
abbrev pub absence_in : Call → Absence
absence_in call = absence_of (command_of call.words)

-- in it one call of the host or of the output failed, which was of this kind, and ended the work
abbrev pub EndsAt : Call → Failing → Type 0
EndsAt call failing =
    FirstFault (absence_in call) failing (world_of call.old) (world_of call.new)

-- it ended at a file that isn't there
abbrev pub EndsAtAbsence : Call → Type 0
EndsAtAbsence call = FirstAbsence (absence_in call) (world_of call.old) (world_of call.new)

-- its work had ended: no call failed in it but one, which was the first that did
abbrev pub HasEnded : Call → Type 0
HasEnded call = NoneFaulted (absence_in call) (world_of call.old) (world_of call.new)
    ⊎ EndsAtAbsence call ⊎ ((failing : Failing) × EndsAt call failing)

-- The line of a host fault names a file, or the test file of a device run, and says what failed:
-- that was counted once, and nothing else failed.
abbrev pub HasHostLine : Call → Type 0
HasHostLine call = (name : List ℕ)
    × ((HasLine call (codes "no file ") name × EndsAtAbsence call)
    ⊎ (HasLine call (codes "cannot read ") name × EndsAt call Reading)
    ⊎ (HasLine call (codes "cannot write ") name × EndsAt call Writing)
    ⊎ (HasLine call (codes "cannot run ") name × EndsAt call Running))

pub record Promise (call : Call) : Type 0 where
  -- What was read is what some way through the effects that the words mean reads, and where files
  -- are told the way that what they hold leads to: each file was opened once at most where the way
  -- reads it, and no more of its bytes were taken than the way says, of an input its limit and one
  -- byte.
  pub reads : (rest : Plan Finish)
      × ReadsOnWay (effects_of call.words) rest (world_of call.old) (world_of call.new)
  -- it says how it is used where its words are no command
  pub usage : call.status ≡ answer.Usage → Asks call Unknown
  pub by_words : Asks call Unknown → (call.status ≡ answer.Usage) ⊎ (call.status ≡ answer.NoMemory)
      ⊎ (call.status ≡ answer.SinkFault)
  pub by_words_kept : Asks call Unknown → world_of call.new ≡ world_of call.old
  -- a count rose where a host that doesn't tell fails
  pub host_fault : call.status ≡ answer.HostFault → is_told call.old.host ≡ false → HostRose call
  -- the output failed once, and nothing else did, or the sink for errors failed once, behind work
  -- that had ended
  pub sink_fault : call.status ≡ answer.SinkFault
      → (EndsAt call Putting × (call.new.err.faults ≡ call.old.err.faults))
      ⊎ ((call.new.err.faults ≡ raised call.old.err.faults) × HasEnded call)
  -- no fault is passed over: with any other status no count has changed, but that of reading by
  -- `run` where a host that doesn't tell has no signature of a device, and by `report` where it has
  -- no file of a test; nor has one where a told host lacks a file
  pub unfaulted : call.status ≢ answer.HostFault → call.status ≢ answer.SinkFault → NoneChanged
      (absence_of (command_of call.words)) (world_of call.old) (world_of call.new) call.old.err
      call.new.err
  pub missing : call.status ≡ answer.HostFault → is_told call.old.host ≡ true → HostRose call ⊎
      NoneChanged (absence_of (command_of call.words)) (world_of call.old) (world_of call.new)
      call.old.err call.new.err
  -- a line for errors was put without a fault, but where the status says otherwise
  pub errors_unfaulted : call.status ≢ answer.SinkFault
      → call.new.err.faults ≡ call.old.err.faults
  -- no count falls, and what was told is told
  pub later : Later (world_of call.old) (world_of call.new)
  pub errors_later : LaterSink call.old.err call.new.err
  -- the one line that each answer has, and no other
  pub line_usage : call.status ≡ answer.Usage
      → HasLine call (codes "usage: rvsuite <command> <options>") []
  pub line_no_memory : call.status ≡ answer.NoMemory → HasLine call (codes "out of memory") []
  pub line_refused : call.status ≡ answer.Refused → (text : List ℕ) × HasLine call text []
  pub line_host_fault : call.status ≡ answer.HostFault → HasHostLine call
  pub quiet : (call.status ≡ answer.Done) ⊎ (call.status ≡ answer.NotPassed)
      → call.new.err ≡ call.old.err
