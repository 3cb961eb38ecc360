-- What a call tells of its progress, from what its work told.
use Rattle.std.proofs.Common.{◌≡◌, ◌≤◌, ◌<◌, ◌^◌, inl, inr, ℕ, true, false, List, [], ◌∷◌}
use Rattle.std.proofs.Common.{length, Some, Result, Ok, Err, refl, sym, ap, ◌∙◌}
use Rattle.std.proofs.Common.{arith, append-nil, is_some, ◌/◌}
use Rattle.rvs_base.specs.Host.{HostState, Files}
use Rattle.rvs_base.specs.Sink.{SinkState}
use Rattle.rvs_plan.specs.Account.{Concludes, status_of}
use Rattle.rvs_plan.specs.declared.stop.Stop.{Stop}
use Rattle.rvs_plan.specs.declared.stop.Stop.TheVariants as why
use Rattle.rvs_plan.specs.declared.status.Status.{Status}
use Rattle.rvs_plan.specs.declared.status.Status.TheVariants as answer
use Rattle.rvs_plan.specs.declared.status.Finish.{Finish}
use Rattle.rvs_log.specs.Progress.{left_by, lines_of_file, lines_of_steps, progress_line}
use Rattle.rvs_log.specs.Progress.{progress_lines, put, step}
use Rattle.rvs_promises.specs.Call.{Call}
use Rattle.rvs_promises.specs.Progressing.{Promise, asks_progress, lines_of}
use Rattle.rvs_coverage.specs.Telling.{HasToldOf, as_planned, is_whole, lines_of_logs, unlost}
use Rattle.rvs_coverage.specs.declared.unfinished.Unfinished.{Unfinished}
use Rattle.rvs_coverage.specs.declared.unfinished.Unfinished.TheVariants.{Stopped, Untold}
use Rattle.rvs_words.specs.Commands.{command_of}
use Rattle.rvs_words.specs.declared.command.Command.{Command}
use Rattle.rvs_words.specs.declared.command.Command.TheVariants.{Coverage}
use Rattle.rvs_words.specs.declared.command.CoverageArguments.{CoverageArguments}
use Rattle.rvs_log.proofs.Telling.{put-none}
use Rattle.rvs_coverage.proofs.Tellings.{told-none}
use Rattle.rvs_coverage.proofs.Quiet.{told-unlost}

-- such work tells nothing
pub nothing-unlost : {A : Type 0} {host : HostState} {sink : SinkState}
    (r : Result A Stop) (u : Result A Unfinished) → u ≡ unlost r
    → HasToldOf false (λ files. []) host sink sink u
nothing-unlost {host = host} {sink = sink} r u is = told-unlost r u is (told-none false host sink)

-- ---- the line behind it
-- nothing is put behind a line that couldn't be
pub concludes-untold : (told now : SinkState) → now ≡ left_by true told → told.faults ≤ now.faults
    → Concludes (Err why.NoMemory) answer.SinkFault told now
concludes-untold told now is later =
    let bytes : now.bytes ≡ told.bytes = ap (λ (s : SinkState). s.bytes) is in
    record {
      front = record {
        front = [];
        rest = _;
        split = refl;
        put = bytes ∙ sym (ap (λ (s : SinkState). s.bytes) (put-none told));
      };
      outcome = inr (refl, ap (λ (s : SinkState). s.faults) is);
      later = record { puts = later; telling = ap (λ o. is_some o) bytes };
    }

-- ---- the whole call
not-done : (stop : Stop) → status_of stop ≡ answer.Done → ⊥
not-done why.Usage e = cc
not-done (why.Refused text) e = cc
not-done (why.NoFile name) e = cc
not-done (why.CannotRead name) e = cc
not-done (why.CannotWrite name) e = cc
not-done (why.CannotRun test) e = cc
not-done why.NoMemory e = cc
not-done why.SinkFault e = cc

-- a call that is done came to its end
whole-of : (result : Result Finish Unfinished) (status : Status) (err err' : SinkState)
    → Concludes (as_planned result) status err err' → status ≡ answer.Done
    → is_whole result ≡ true
whole-of (Ok end) status err err' c done = refl
whole-of (Err (Stopped stop)) status err err' c done = elim c.outcome [
  | inl whole ↦ absurd (not-done stop (sym whole.0 ∙ done))
  | inr lost ↦ let x : answer.SinkFault ≡ answer.Done = sym lost.0 ∙ done in absurd cc
]
whole-of (Err Untold) status err err' c done = elim c.outcome [
  | inl whole ↦ let x : answer.NoMemory ≡ answer.Done = sym whole.0 ∙ done in absurd cc
  | inr lost ↦ let x : answer.SinkFault ≡ answer.Done = sym lost.0 ∙ done in absurd cc
]

one-line : (log bytes : List ℕ) → 2 ^ 30 ≤ length bytes → length bytes < 2 ^ 31
    → progress_lines log (length bytes) ≡ progress_line log 1
unfolding progress_lines
one-line log bytes low high =
    let once : length bytes / step ≡ 1 = omega (arith, low, high) in
    ap (lines_of_steps log) once

lines-are : (asked : CoverageArguments) (files : Files) (command : Command) (log bytes : List ℕ)
    → command ≡ Coverage asked → asked.logs ≡ log ∷ [] → files log ≡ Some bytes
    → lines_of command files ≡ progress_lines log (length bytes)
lines-are asked files command log bytes is one there =
    ap (λ c. lines_of c files) is
    ∙ ap (λ logs. lines_of_logs (λ name. name) logs files) one
    ∙ append-nil _
    ∙ ap (λ o. lines_of_file log o) there

pub progress : (c : Call) (result : Result Finish Unfinished) (mid : SinkState)
    (t : HasToldOf (asks_progress (command_of c.words)) (lines_of (command_of c.words))
    c.old.host c.old.err mid result)
    → Concludes (as_planned result) c.status (put t.front c.old.err) c.new.err
    → Promise c (put t.front c.old.err)
progress c result mid t concludes =
    let whole = λ (done : c.status ≡ answer.Done).
    whole-of result c.status (put t.front c.old.err) c.new.err concludes done in
    record {
      front = t.front;
      told_is = refl;
      unasked = λ is. ap (λ l. put l c.old.err) (t.unasked is).0 ∙ put-none c.old.err;
      part = t.part;
      whole = λ files told asks done. t.all (whole done) asks files told;
      one = λ files asked log bytes told asks progress one there low high done.
          let wants = ap asks_progress asks ∙ progress in
          ap (λ l. put l c.old.err) (t.all (whole done) wants files told
          ∙ lines-are asked files (command_of c.words) log bytes asks one there
          ∙ one-line log bytes low high);
    }
