-- What every run of the program promises, from what its command left.
use Rattle.std.proofs.Common.{◌≡◌, List, ℕ, false, Result, refl, ap, subst}
use Rattle.rvs_base.specs.Host.{HostState, Files, Tells}
use Rattle.rvs_base.specs.Sink.{SinkState}
use Rattle.rvs_plan.specs.World.{world}
use Rattle.rvs_plan.specs.Account.{Concludes}
use Rattle.rvs_plan.specs.declared.status.Status.{Status}
use Rattle.rvs_plan.specs.declared.status.Finish.{Finish}
use Rattle.rvs_suite.specs.Plans.{Performs, plan_of, absence_of}
use Rattle.rvs_words.specs.declared.command.Command.{Command}
use Rattle.rvs_words.specs.declared.command.Command.TheVariants.{Compare, Validate, Normalize}
use Rattle.rvs_words.specs.declared.command.Command.TheVariants.{Generate, Reference, Coverage}
use Rattle.rvs_words.specs.declared.command.Command.TheVariants.{Propagate, Run, RunDatabase}
use Rattle.rvs_words.specs.declared.command.Command.TheVariants.{Report, Select}
use Rattle.rvs_words.specs.Commands.{command_of}
use Rattle.rvs_promises.specs.Call.{Call, call, world_of, Asks}
use Rattle.rvs_promises.specs.Comparing as comparing
use Rattle.rvs_promises.specs.Validating as validating
use Rattle.rvs_promises.specs.Demonstrating as demonstrating
use Rattle.rvs_promises.specs.Covering as covering
use Rattle.rvs_promises.specs.Propagating as propagating
use Rattle.rvs_promises.specs.Progressing as progressing
use Rattle.rvs_promises.specs.Progressing.{asks_progress, behind, lines_of}
use Rattle.rvs_coverage.specs.Telling.{HasToldOf, as_planned}
use Rattle.rvs_coverage.specs.declared.unfinished.Unfinished.{Unfinished}
use Rattle.rvs_log.specs.Progress.{put}
use Rattle.rvs_promises.specs.Generating as generating
use Rattle.rvs_promises.specs.Normalizing as normalizing
use Rattle.rvs_promises.specs.Referencing as referencing
use Rattle.rvs_suite.specs.Judging as judging
use Rattle.rvs_suite.specs.JudgingDatabase as database
use Rattle.rvs_suite.specs.Reporting as reporting
use Rattle.rvs_promises.specs.Selecting as selecting
use Rattle.rvs_suite.specs.Planned as planned
use Rattle.rvs_suite.specs.Causes as causes
use Rattle.rvs_suite.specs.Promise.{Promise}
use Rattle.rvs_promises.proofs.Running.{Ran, answers, answered, completes}
use Rattle.rvs_promises.proofs.Answered.{RunsOn}
use Rattle.rvs_suite.proofs.Performing.{RanCall, ran-asked, usage, no_command}
use Rattle.rvs_promises.proofs.ValidateEnds.{checks}
use Rattle.rvs_promises.proofs.ReferenceEnds.{refers}
use Rattle.rvs_promises.proofs.Lines.{says-usage, says-no_memory, says-refused, says-host}
use Rattle.rvs_promises.proofs.Lines.{says-nothing, unfaulted-line, with-ended}
use Rattle.rvs_promises.proofs.Untouched.{untouched, untouched-absent}
use Rattle.rvs_suite.proofs.Stopping.{stops_untouched}
use Rattle.rvs_promises.proofs.CompareEnds.{compares}
use Rattle.rvs_promises.proofs.GenerateEnds.{makes}
use Rattle.rvs_promises.proofs.NormalizeEnds.{normalizes}
use Rattle.rvs_promises.proofs.CoverageEnds.{covers}
use Rattle.rvs_promises.proofs.PropagateEnds.{propagates}
use Rattle.rvs_promises.proofs.ProgressEnds.{progress}
use Rattle.rvs_suite.proofs.RunEnds.{judges}
use Rattle.rvs_suite.proofs.DatabaseEnds.{judges_database}
use Rattle.rvs_suite.proofs.ReportEnds.{reports}
use Rattle.rvs_promises.proofs.SelectEnds.{selects}
use Rattle.rvs_promises.proofs.DemoEnds.{demonstrates}

-- the same as from when its progress was told
pub record RanTelling (call : Call) : Type 0 where
  pub told : SinkState
  pub since : RanCall (behind call told)
  pub progress : progressing.Promise call told

pub ran : {words : List (List ℕ)} {host host' : HostState} {out out' err err' : SinkState}
    {status : Status} (result : Result Finish Unfinished) (mid : SinkState)
    → Performs (command_of words) (world host out) (world host' out') (as_planned result)
    → (t : HasToldOf (asks_progress (command_of words)) (lines_of (command_of words)) host err mid
    result)
    → Concludes (as_planned result) status (put t.front err) err' → RanTelling
    (call words host host' out out' err err' status)
ran {words} {host} {host'} {out} {out'} {err} {err'} {status} result mid performs t concludes =
    record {
      told = put t.front err;
      since =
          record { result = as_planned result; performs = performs; concludes = concludes };
      progress = progress (call words host host' out out' err err' status) result mid t concludes;
    }

-- a call whose words don't ask for progress
plain : {call : Call} → RanTelling call → asks_progress (command_of call.words) ≡ false
    → RanCall call
plain {call} r is =
    subst (λ (told : SinkState). RanCall (behind call told)) (r.progress.unasked is) r.since

-- what its words ask for was done
obeyed : {call : Call} → RanCall call
    → Ran (absence_of (command_of call.words)) (plan_of (command_of call.words))
    (world_of call.old) (world_of call.new) call.old.err call.new.err call.status
obeyed {call} r = ran-asked (command_of call.words) r refl

pub planned-promise : {call : Call} → RanCall call → planned.Promise call
planned-promise {call} r files t =
    let ran = obeyed r in
    record {
      effects = (answers ran).effects files t;
      answered = answered ran files t;
      completes = completes ran files t;
      untouched = λ first. untouched ran files t (stops_untouched (command_of call.words) first);
      absent_untouched = λ first.
          untouched-absent ran files t (stops_untouched (command_of call.words) first);
    }

pub causes-promise : {call : Call} → RanCall call → causes.Promise call
causes-promise {call} r =
    record {
      reads = (answers (obeyed r)).reading;
      usage = usage r;
      by_words = no_command r;
      by_words_kept = r.performs.unchanged;
      host_fault = (answers (obeyed r)).host_fault;
      sink_fault = λ is.
          with-ended (causes.absence_in call) (world_of call.old) (world_of call.new) r.result
          r.performs.obeys.unfaulted ((answers (obeyed r)).sink_fault is);
      unfaulted = (answers (obeyed r)).unfaulted;
      missing = (answers (obeyed r)).missing;
      line_usage = says-usage call.status call.old.err call.new.err r.result r.concludes;
      line_no_memory =
          says-no_memory call.status call.old.err call.new.err r.result r.concludes;
      line_refused =
          says-refused call.status call.old.err call.new.err r.result r.concludes;
      line_host_fault =
          says-host (causes.absence_in call) (world_of call.old) (world_of call.new) call.status
          call.old.err call.new.err r.result r.performs.obeys.unfaulted r.concludes;
      quiet = says-nothing call.status call.old.err call.new.err r.result r.concludes;
      errors_unfaulted =
          unfaulted-line call.status call.old.err call.new.err r.result r.concludes;
      later = (answers (obeyed r)).later;
      errors_later = (answers (obeyed r)).errors_later;
    }

-- a call over told files that asks for this
runs-on : {call : Call} (files : Files) (command : Command) → RanCall call
    → Tells call.old.host files → Asks call command
    → RunsOn call files (absence_of command) (plan_of command)
runs-on files command r t is = record { ran = ran-asked command r is; told = t }

pub compare-promise : {call : Call} → RanTelling call → comparing.Promise call
compare-promise r files asked t is =
    compares files asked
    (runs-on files (Compare asked) (plain r (ap asks_progress is)) t is)

pub validate-promise : {call : Call} → RanTelling call → validating.Promise call
validate-promise r files asked t is =
    checks files asked
    (runs-on files (Validate asked) (plain r (ap asks_progress is)) t is)

pub reference-promise : {call : Call} → RanTelling call → referencing.Promise call
reference-promise r files asked t is =
    refers files asked
    (runs-on files (Reference asked) (plain r (ap asks_progress is)) t is)

pub normalize-promise : {call : Call} → RanTelling call → normalizing.Promise call
normalize-promise r files asked t is =
    normalizes files asked
    (runs-on files (Normalize asked) (plain r (ap asks_progress is)) t is)

pub generate-promise : {call : Call} → RanTelling call → generating.Promise call
generate-promise r files asked t is =
    makes files asked
    (runs-on files (Generate asked) (plain r (ap asks_progress is)) t is)

pub coverage-promise : {call : Call} → RanCall call → covering.Promise call
coverage-promise r files asked t is =
    covers files asked (runs-on files (Coverage asked) r t is) is

pub propagate-promise : {call : Call} → RanCall call → propagating.Promise call
propagate-promise r files asked t is =
    propagates files asked (runs-on files (Propagate asked) r t is) is

pub run-promise : {call : Call} → RanTelling call → judging.Promise call
run-promise r files asked t is =
    judges files asked
    (runs-on files (Run asked) (plain r (ap asks_progress is)) t is)

pub database-promise : {call : Call} → RanTelling call → database.Promise call
database-promise r files asked t is =
    judges_database files asked
    (runs-on files (RunDatabase asked) (plain r (ap asks_progress is)) t is)

pub report-promise : {call : Call} → RanTelling call → reporting.Promise call
report-promise r files asked t is =
    reports files asked
    (runs-on files (Report asked) (plain r (ap asks_progress is)) t is)

pub select-promise : {call : Call} → RanTelling call → selecting.Promise call
select-promise r files asked t is =
    selects files asked
    (runs-on files (Select asked) (plain r (ap asks_progress is)) t is)

pub demo-promise : {call : Call} → RanTelling call → demonstrating.Promise call
demo-promise r count is =
    let ran = plain r (ap asks_progress is) in
    demonstrates count (record {
      result = ran.result;
      apart = ran.performs.apart count is;
      concludes = ran.concludes;
    })

pub promise : {call : Call} → RanTelling call → Promise call
promise r = record {
  told = r.told;
  progress = r.progress;
  planned = planned-promise r.since;
  causes = causes-promise r.since;
  compare = compare-promise r;
  validate = validate-promise r;
  normalize = normalize-promise r;
  generate = generate-promise r;
  reference = reference-promise r;
  coverage = coverage-promise r.since;
  propagate = propagate-promise r.since;
  run = run-promise r;
  run_database = database-promise r;
  report = report-promise r;
  select = select-promise r;
  demo = demo-promise r;
}
