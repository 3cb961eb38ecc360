-- What every call of `compare` promises.
use Rattle.std.specs.Prelude.{◌≡◌, ◌≢◌, ◌+◌, ◌*◌, List, ℕ, length, Result, Ok}
use Rattle.rvs_base.specs.File.{ReadsAtMost}
use Rattle.rvs_base.specs.Host.{Files, Tells}
use Rattle.rvs_base.specs.Sink.{appended}
use Rattle.rvs_plan.specs.Inputs.{part_end}
use Rattle.rvs_plan.specs.declared.stop.Stop.{Stop}
use Rattle.rvs_plan.specs.declared.status.Finish.{Finish}
use Rattle.rvs_plan.specs.declared.status.Finish.TheVariants.{Done, NotPassed}
use Rattle.rvs_sig.specs.Verdicts.{verdict_of}
use Rattle.rvs_sig.specs.Words.{words_of}
use Rattle.rvs_promises.specs.Answered.{Answered}
use Rattle.rvs_promises.specs.Call.{Call, Asks}
use Rattle.rvs_device.specs.Judged.{signature_limit}
use Rattle.rvs_plain.specs.Compare.{words_end}
use Rattle.rvs_inputs.specs.GroupFiles.{and_then}
use Rattle.rvs_plain.specs.Texts.{same_line, verdict_line}
use Rattle.rvs_words.specs.declared.command.Command.TheVariants.{Compare}
use Rattle.rvs_words.specs.declared.command.CompareArguments.{CompareArguments}

-- the words that the named signature file spells, or why the command stops there
abbrev pub words_in : Files → List ℕ → Result (List ℕ) Stop
words_in files name =
    and_then (part_end signature_limit name name signature_limit (files name))
    (λ bytes. words_end name (words_of bytes))

-- the words of the left file and of the right one
pub record Both : Type 0 where
  pub left : List ℕ
  pub right : List ℕ

-- the words of both files, or why the first of them isn't accepted
abbrev pub both_in : Files → CompareArguments → Result Both Stop
both_in files asked =
    and_then (words_in files asked.left) (λ l.
    and_then (words_in files asked.right) (λ r. Ok (record { left = l; right = r })))

-- the output has this line more
abbrev pub HasPut : Call → List ℕ → Type 0
HasPut call line = call.new.out.bytes ≡ appended call.old.out.bytes line

-- it passes where the words are the same, and fails where they differ; the line says how
abbrev pub HasCompared : Call → Both → Finish → Type 0
HasCompared call both Done = (both.left ≡ both.right) × HasPut call (same_line (length both.left))
HasCompared call both NotPassed = (both.left ≢ both.right)
    × HasPut call (verdict_line (length both.left) (verdict_of both.left both.right))

-- a call of `compare` on these two of these files
pub record Compares (call : Call) (files : Files) (asked : CompareArguments) : Type 0 where
  -- it is done, or not passed, where both files are accepted, and has put the verdict; it is
  -- refused, or the host fails, at the first file that isn't
  pub answered : Answered call (both_in files asked) (HasCompared call)
  -- files are opened twice at most, and no more bytes taken than two signature files may have, and
  -- one of each
  pub reads : ReadsAtMost 2 (2 * (signature_limit + 1)) call.old.host call.new.host
  -- it writes no file, however it ends
  pub files_kept : call.new.host.files ≡ call.old.host.files

-- the same of every call: over told files, where its words ask for `compare`
abbrev pub Promise : Call → Type 0
Promise call = (files : Files) (asked : CompareArguments) → Tells call.old.host files
    → Asks call (Compare asked) → Compares call files asked
