-- What every call of `compare` promises.
use Rattle.std.specs.Prelude.{◌≡◌, ◌⊎◌, List, ℕ}
use Rattle.rvs_base.specs.Host.{Files, Tells}
use Rattle.rvs_plan.specs.declared.status.Status.TheVariants.{Done, NotPassed, Refused, HostFault}
use Rattle.rvs_plan.specs.declared.status.Status.TheVariants.{NoMemory}
use Rattle.rvs_promises.specs.Call.{Call, Asks, NothingFailed, HostRose, AnswersOnly}
use Rattle.rvs_uses.specs.Refusals.{HasRefused, HasMissed}
use Rattle.rvs_uses.specs.Spells.{BothSpell, FirstRefused, FirstMissing, Passes, Fails}
use Rattle.rvs_words.specs.declared.command.Command.TheVariants.{Compare}
use Rattle.rvs_words.specs.declared.command.CompareArguments.{CompareArguments}

-- a call of `compare` on these two of these files
pub record Compares (call : Call) (files : Files) (asked : CompareArguments) : Type 0 where
  -- it passes where both files spell the same words, and fails where they differ; the output says
  -- which
  pub done : call.status ≡ Done → Passes files asked.left asked.right call.old.out call.new.out
  pub not_passed : call.status ≡ NotPassed
      → Fails files asked.left asked.right call.old.out call.new.out
  pub by_inputs : (left_words right_words : List ℕ)
      → BothSpell files asked.left asked.right left_words right_words → NothingFailed call
      → (call.status ≡ Done) ⊎ (call.status ≡ NotPassed) ⊎ (call.status ≡ NoMemory)
  -- it is refused where the first file that isn't accepted has no word list or is too long, and
  -- says why
  pub refused : call.status ≡ Refused → HasRefused call (FirstRefused files asked.left asked.right)
  pub by_refusal : (text : List ℕ) → FirstRefused files asked.left asked.right text
      → NothingFailed call
      → AnswersOnly call Refused
  -- the host fails where a count rose, or where the first file that isn't accepted isn't there
  pub absent : call.status ≡ HostFault
      → HasMissed call (FirstMissing files asked.left asked.right) ⊎ HostRose call
  pub by_absence : (name : List ℕ) → FirstMissing files asked.left asked.right name
      → NothingFailed call
      → AnswersOnly call HostFault
  -- it writes no file, however it ends
  pub files_kept : call.new.host.files ≡ call.old.host.files

-- the same of every call: over told files, where its words ask for `compare`
abbrev pub Promise : Call → Type 0
Promise call = (files : Files) (asked : CompareArguments) → Tells call.old.host files
    → Asks call (Compare asked) → Compares call files asked
