-- The line on the sink for errors, by the status.
use Rattle.std.proofs.Common.{◌≡◌, ◌≢◌, ◌⊎◌, inl, inr, ℕ, Bool, true, false, List, [], Result}
use Rattle.std.proofs.Common.{Err, refl, sym, ap, codes, ◌∙◌, subst, arith}
use Rattle.rvs_base.specs.Sink.{SinkState, appended}
use Rattle.rvs_plan.specs.World.{World, Absence, Failing, Reading, Writing, Running}
use Rattle.rvs_plan.specs.World.{NoneFaulted, FirstFault, FirstAbsence}
use Rattle.rvs_plan.specs.Meets.{StopsUnfaulted, NoFault}
use Rattle.rvs_plan.specs.Account.{status_of, line_of, fault_line, Concludes}
use Rattle.rvs_plan.specs.declared.stop.Stop.{Stop}
use Rattle.rvs_plan.specs.declared.stop.Stop.TheVariants as why
use Rattle.rvs_plan.specs.declared.status.Status.{Status}
use Rattle.rvs_plan.specs.declared.status.Status.TheVariants as answer
use Rattle.rvs_plan.specs.declared.status.Finish.{Finish}

-- a stop of this status, whose line was put
pub record Stopped (wanted : Status) (err err' : SinkState) (result : Result Finish Stop) : Type
    0 where
  pub reason : Stop
  pub given : result ≡ Err reason
  pub is : status_of reason ≡ wanted
  pub line : err'.bytes ≡ appended err.bytes (line_of reason)

pub stopped : (status wanted : Status) (err err' : SinkState) (result : Result Finish Stop)
    → Concludes result status err err' → status ≡ wanted → wanted ≢ answer.Done
    → wanted ≢ answer.NotPassed → wanted ≢ answer.SinkFault → Stopped wanted err err' result
stopped status wanted err err' result c is done not_passed sink = grind arith

usage-line : (reason : Stop) → status_of reason ≡ answer.Usage → line_of reason ≡ line_of why.Usage
usage-line reason e = grind arith

memory-line : (reason : Stop) → status_of reason ≡ answer.NoMemory
    → line_of reason ≡ line_of why.NoMemory
memory-line reason e = grind arith

refused-line : (reason : Stop) → status_of reason ≡ answer.Refused
    → (text : List ℕ) × (line_of reason ≡ fault_line text [])
refused-line why.Usage e = absurd cc
refused-line (why.Refused text) e = (text, refl)
refused-line (why.NoFile name) e = absurd cc
refused-line (why.CannotRead name) e = absurd cc
refused-line (why.CannotWrite name) e = absurd cc
refused-line (why.CannotRun test) e = absurd cc
refused-line why.NoMemory e = absurd cc
refused-line why.SinkFault e = absurd cc

-- a line for errors that names a file, and what failed
abbrev pub SaysHost : Absence → World → World → SinkState → SinkState → List ℕ → Type 0
SaysHost absence old new err err' name =
    ((err'.bytes ≡ appended err.bytes (fault_line (codes "no file ") name))
    × FirstAbsence absence old new) ⊎
    ((err'.bytes ≡ appended err.bytes (fault_line (codes "cannot read ") name))
    × FirstFault absence Reading old new) ⊎
    ((err'.bytes ≡ appended err.bytes (fault_line (codes "cannot write ") name))
    × FirstFault absence Writing old new) ⊎
    ((err'.bytes ≡ appended err.bytes (fault_line (codes "cannot run ") name))
    × FirstFault absence Running old new)

host-line : (absence : Absence) (old new : World) (err err' : SinkState) (reason : Stop)
    → status_of reason ≡ answer.HostFault → StopsUnfaulted absence old new reason
    → err'.bytes ≡ appended err.bytes (line_of reason)
    → (name : List ℕ) × SaysHost absence old new err err' name
host-line absence old new err err' why.Usage e first line = absurd cc
host-line absence old new err err' (why.Refused text) e first line = absurd cc
host-line absence old new err err' (why.NoFile name) e first line = (name, inl (line, first))
host-line absence old new err err' (why.CannotRead name) e first line = grind (arith, inr, inl)
host-line absence old new err err' (why.CannotWrite name) e first line = grind (arith, inr, inl)
host-line absence old new err err' (why.CannotRun test) e first line = grind (arith, inr)
host-line absence old new err err' why.NoMemory e first line = absurd cc
host-line absence old new err err' why.SinkFault e first line = absurd cc

-- ---- what each status says
pub says-usage : (status : Status) (err err' : SinkState) (result : Result Finish Stop)
    → Concludes result status err err' → status ≡ answer.Usage
    → err'.bytes ≡ appended err.bytes (fault_line (codes "usage: rvsuite <command> <options>") [])
says-usage status err err' result c is = grind (arith, stopped, usage-line)

pub says-no_memory : (status : Status) (err err' : SinkState) (result : Result Finish Stop)
    → Concludes result status err err' → status ≡ answer.NoMemory
    → err'.bytes ≡ appended err.bytes (fault_line (codes "out of memory") [])
says-no_memory status err err' result c is = grind (arith, stopped, memory-line)

pub says-refused : (status : Status) (err err' : SinkState) (result : Result Finish Stop)
    → Concludes result status err err' → status ≡ answer.Refused
    → (text : List ℕ) × (err'.bytes ≡ appended err.bytes (fault_line text []))
says-refused status err err' result c is = grind (arith, stopped, refused-line)

pub says-host : (absence : Absence) (old new : World) (status : Status) (err err' : SinkState)
    (result : Result Finish Stop) → NoFault absence old new result
    → Concludes result status err err' → status ≡ answer.HostFault
    → (name : List ℕ) × SaysHost absence old new err err' name
says-host absence old new status err err' result unfaulted c is =
    let s = stopped status answer.HostFault err err' result c is (λ e. cc) (λ e. cc) (λ e. cc) in
    host-line absence old new err err' s.reason s.is
    (subst (λ (r : Result Finish Stop). NoFault absence old new r) s.given unfaulted) s.line

-- a status of an end, and no stop's
abbrev is_end : Status → Bool
is_end answer.Done = true
is_end answer.NotPassed = true
is_end _ = false

-- it isn't one that no end has
no-end : (end status : Status) → (end ≡ answer.Done) ⊎ (end ≡ answer.NotPassed) → end ≡ status
    → is_end status ≡ false → ⊥
no-end end status (inl done) e none = let no : true ≡ false = ap is_end (sym done ∙ e) ∙ none in cc
no-end end status (inr failed) e none =
    let no : true ≡ false = ap is_end (sym failed ∙ e) ∙ none in cc

pub says-nothing : (status : Status) (err err' : SinkState) (result : Result Finish Stop)
    → Concludes result status err err' → (status ≡ answer.Done) ⊎ (status ≡ answer.NotPassed)
    → err' ≡ err
says-nothing status err err' result c is = grind arith

pub unfaulted-line : (status : Status) (err err' : SinkState) (result : Result Finish Stop)
    → Concludes result status err err' → status ≢ answer.SinkFault → err'.faults ≡ err.faults
unfaulted-line status err err' result c never = grind arith

-- ---- a line that can't be put
-- no call failed before it but one, which ended the work
abbrev pub Ended : Absence → World → World → Type 0
Ended absence old new = NoneFaulted absence old new ⊎ FirstAbsence absence old new
    ⊎ ((failing : Failing) × FirstFault absence failing old new)

pub with-ended : {A B : Type 0} (absence : Absence) (old new : World) (result : Result Finish Stop)
    → NoFault absence old new result → A ⊎ B → A ⊎ (B × Ended absence old new)
with-ended absence old = grind arith
