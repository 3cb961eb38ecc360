-- What a call tells of its progress.
use Rattle.std.specs.Prelude.{◌≡◌, ◌≤◌, ◌<◌, ◌^◌, ℕ, Bool, true, false, List, [], ◌∷◌, length, Some}
use Rattle.rvs_base.specs.Host.{Files, Tells}
use Rattle.rvs_base.specs.Sink.{SinkState}
use Rattle.rvs_plan.specs.declared.status.Status.TheVariants.{Done}
use Rattle.rvs_log.specs.Progress.{IsFront, progress_line, put}
use Rattle.rvs_promises.specs.Call.{Call, Asks}
use Rattle.rvs_coverage.specs.Coverage as covering
use Rattle.rvs_propagate.specs.Propagate as propagating
use Rattle.rvs_coverage.specs.Telling.{lines_of_logs}
use Rattle.rvs_words.specs.Commands.{command_of}
use Rattle.rvs_words.specs.declared.command.Command.{Command}
use Rattle.rvs_words.specs.declared.command.Command.TheVariants.{Coverage, Propagate}
use Rattle.rvs_words.specs.declared.command.CoverageArguments.{CoverageArguments}

-- whether a command asks for it
abbrev pub asks_progress : Command → Bool
asks_progress (Coverage asked) = asked.progress
asks_progress (Propagate asked) = asked.progress
asks_progress _ = false

-- the lines of a command over these files, when all is read
abbrev pub lines_of : Command → Files → List ℕ
lines_of (Coverage asked) files = lines_of_logs covering.file_name asked.logs files
lines_of (Propagate asked) files = lines_of_logs propagating.file_name asked.logs files
lines_of _ files = []

-- the call as from the time when its progress was told
abbrev pub behind : Call → SinkState → Call
behind call told = record call {
  old = record { host = call.old.host; out = call.old.out; err = told };
}

-- what the sink for errors had when the work of the call had ended
pub record Promise (call : Call) (told : SinkState) : Type 0 where
  -- these bytes were put; a fault of the sink, which ends the work, isn't counted here
  pub front : List ℕ
  pub told_is : told ≡ put front call.old.err
  -- none where its words don't ask for it
  pub unasked : asks_progress (command_of call.words) ≡ false → told ≡ call.old.err
  -- otherwise a front of the lines over its files, and all of them where it is done
  pub part : (files : Files) → Tells call.old.host files
      → IsFront front (lines_of (command_of call.words) files)
  pub whole : (files : Files) → Tells call.old.host files
      → asks_progress (command_of call.words) ≡ true → call.status ≡ Done
      → front ≡ lines_of (command_of call.words) files
  -- so of one log of 1,024 MiB, and of less than twice as much, there is one line
  pub one : (files : Files) (asked : CoverageArguments) (log bytes : List ℕ)
      → Tells call.old.host files → Asks call (Coverage asked) → asked.progress ≡ true
      → asked.logs ≡ log ∷ [] → files log ≡ Some bytes → 2 ^ 30 ≤ length bytes
      → length bytes < 2 ^ 31 → call.status ≡ Done
      → told ≡ put (progress_line log 1) call.old.err
