-- What every call of `validate` promises.
use Rattle.std.specs.Prelude.{◌≡◌, ◌≢◌, ◌⊎◌, List, ℕ, None}
use Rattle.rvs_base.specs.Host.{Files, Tells}
use Rattle.rvs_plan.specs.declared.status.Status.TheVariants.{Done, NotPassed, Refused, HostFault}
use Rattle.rvs_isa.specs.declared.accepted_spec.AcceptedSpec.{AcceptedSpec}
use Rattle.rvs_promises.specs.Call.{Call, Asks, NothingFailed, HostRose, AnswersOnly}
use Rattle.rvs_promises.specs.Says.{Says}
use Rattle.rvs_uses.specs.Refusals.{HasRefused, HasMissed}
use Rattle.rvs_uses.specs.Says.{IsRefused, IsMissing, Validates}
use Rattle.rvs_words.specs.declared.command.Command.TheVariants.{Validate}
use Rattle.rvs_words.specs.declared.command.ValidateArguments.{ValidateArguments}

-- a call of `validate` on this one of these files
pub record Checks (call : Call) (files : Files) (asked : ValidateArguments) : Type 0 where
  -- it is done where the checks accept the ISA file, and puts what it says; it has no other verdict
  pub done : call.status ≡ Done → Validates files asked.isa call.old.out call.new.out
  pub no_verdict : call.status ≢ NotPassed
  pub by_inputs : (said : AcceptedSpec) → Says files asked.isa said → NothingFailed call
      → AnswersOnly call Done
  -- it is refused where the file is too long, has no tree or fails a check, and says why
  pub refused : call.status ≡ Refused → HasRefused call (IsRefused files asked.isa)
  pub by_refusal : (text : List ℕ) → IsRefused files asked.isa text → NothingFailed call
      → AnswersOnly call Refused
  -- the host fails where a count rose, or where the file isn't there
  pub absent : call.status ≡ HostFault → HasMissed call (IsMissing files asked.isa) ⊎ HostRose call
  pub by_absence : files asked.isa ≡ None → NothingFailed call → AnswersOnly call HostFault
  -- it writes no file, however it ends
  pub files_kept : call.new.host.files ≡ call.old.host.files

-- the same of every call: over told files, where its words ask for `validate`
abbrev pub Promise : Call → Type 0
Promise call = (files : Files) (asked : ValidateArguments) → Tells call.old.host files
    → Asks call (Validate asked)
    → Checks call files asked
