-- What a command that reads its inputs first promises, by what these come to.
use Rattle.std.specs.Prelude.{◌≡◌, ◌⊎◌, List, ℕ, [], Result, Ok, Err}
use Rattle.rvs_base.specs.Sink.{appended}
use Rattle.rvs_plan.specs.Account.{fault_line, line_of}
use Rattle.rvs_plan.specs.declared.stop.Stop.{Stop}
use Rattle.rvs_plan.specs.declared.stop.Stop.TheVariants as why
use Rattle.rvs_plan.specs.declared.status.Finish.{Finish}
use Rattle.rvs_plan.specs.declared.status.Finish.TheVariants as finish
use Rattle.rvs_plan.specs.declared.status.Status.TheVariants.{Done, NotPassed, Refused, HostFault}
use Rattle.rvs_plan.specs.declared.status.Status.TheVariants.{NoMemory}
use Rattle.rvs_promises.specs.Call.{Call, NothingFailed, HostRose, AnswersOnly}

-- the inputs are accepted and give this, and the call has left what it should
pub record HasLeft {A : Type 0} (found : Result A Stop) (Left : A → Type 0) : Type 0 where
  pub given : A
  pub accepted : found ≡ Ok given
  pub left : Left given

-- an input is refused, and the sink for errors has the line that says why
pub record HasRefused {A : Type 0} (call : Call) (found : Result A Stop) : Type 0 where
  pub text : List ℕ
  pub refused : found ≡ Err (why.Refused text)
  pub line : call.new.err.bytes ≡ appended call.old.err.bytes (fault_line text [])

-- an input isn't there, and the sink for errors has the line that names it
pub record HasMissed {A : Type 0} (call : Call) (found : Result A Stop) : Type 0 where
  pub name : List ℕ
  pub absent : found ≡ Err (why.NoFile name)
  pub line : call.new.err.bytes ≡ appended call.old.err.bytes (line_of (why.NoFile name))

-- what is left where all is done, of a command that has no verdict
abbrev pub OnDone : {A : Type 0} → (A → Type 0) → A → Finish → Type 0
OnDone Left given finish.Done = Left given
OnDone Left given finish.NotPassed = ⊥

-- a call whose inputs come to this, and that has left this, by how it ends, where they are accepted
pub record Answered {A : Type 0} (call : Call) (found : Result A Stop)
    (Left : A → Finish → Type 0) : Type 0 where
  -- it is done, or not passed, where its inputs are accepted, and has then left what they give
  pub done : call.status ≡ Done → HasLeft found (λ given. Left given finish.Done)
  pub not_passed : call.status ≡ NotPassed → HasLeft found (λ given. Left given finish.NotPassed)
  pub by_inputs : (given : A) → found ≡ Ok given → NothingFailed call
      → (call.status ≡ Done) ⊎ (call.status ≡ NotPassed) ⊎ (call.status ≡ NoMemory)
  -- it is refused where the first input that isn't accepted is refused, and says why
  pub refused : call.status ≡ Refused → HasRefused call found
  pub by_refusal : (text : List ℕ) → found ≡ Err (why.Refused text) → NothingFailed call
      → AnswersOnly call Refused
  -- the host fails where a count rose, or where the first input that isn't accepted isn't there
  pub absent : call.status ≡ HostFault → HasMissed call found ⊎ HostRose call
  pub by_absence : (name : List ℕ) → found ≡ Err (why.NoFile name) → NothingFailed call
      → AnswersOnly call HostFault
