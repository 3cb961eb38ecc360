-- What every call of `report` promises.
use Rattle.std.proofs.Common.{◌≡◌, inr, Some, Ok, refl, sym, ap, ◌∙◌}
use Rattle.rvs_base.specs.Host.{Files}
use Rattle.rvs_plan.specs.World.{Contents, IsAnswer}
use Rattle.rvs_page.specs.Shown.{verdict_of}
use Rattle.rvs_promises.specs.Call.{Call}
use Rattle.rvs_promises.specs.Answered.{Answered}
use Rattle.rvs_coverage.specs.Coverage.{uncounted, counts_more, file_name}
use Rattle.rvs_inputs.specs.DeviceInput.{device_in}
use Rattle.rvs_inputs.specs.GroupFiles.{Inputs, and_then, inputs_in}
use Rattle.rvs_generate.specs.TestedInputs.{tested_in}
use Rattle.rvs_coverage.specs.LogReport.{logs_in}
use Rattle.rvs_promises.specs.Rooms.{AsksForRoom}
use Rattle.rvs_report.specs.Report.{end_by, page_with, all_shown_in, page_in, finds_page, puts_page}
use Rattle.rvs_report.specs.Report.{report}
use Rattle.rvs_suite.specs.Reporting as reporting
use Rattle.rvs_promises.proofs.Answered.{Works, RunsOn, answered}
use Rattle.rvs_promises.proofs.RoomEnds.{asks, asked-room, asked-then}
use Rattle.rvs_promises.proofs.Tested.{good-inputs, placed-inputs}
use Rattle.rvs_promises.proofs.Untouched.{untouched}
use Rattle.rvs_suite.proofs.Stopping.{stops-report}
use Rattle.rvs_inputs.proofs.Keeping.{WritesNone, WritesNone-then, reads-none}
use Rattle.rvs_promises.proofs.Running.{keeps}
use Rattle.rvs_suite.proofs.ReportReads.{reads-page, finds-page}
use Rattle.rvs_suite.proofs.ReportPasses.{shown-passes, all-pass, found-apart}
use Rattle.rvs_words.specs.declared.command.ReportArguments.{ReportArguments}

abbrev works : (files : Files) (asked : ReportArguments)
    → Works (report asked) files (page_in files asked)
works files asked = record {
  inputs = finds_page asked;
  deeds = puts_page;
  ends = λ page. end_by (verdict_of page.labels);
  plan = refl;
  finds = finds-page files asked;
  does = λ page. refl;
}

writes-report : (asked : ReportArguments) → WritesNone (report asked)
writes-report asked = WritesNone-then (finds_page asked) puts_page
    (reads-none (finds_page asked) (reads-page asked)) (λ page. tt)

answers-report : {call : Call} (files : Files) (asked : ReportArguments)
    → RunsOn call files IsAnswer (report asked)
    → Answered call (page_in files asked) (reporting.HasShown call)
answers-report {call} files asked r =
    answered (reporting.HasShown call) r (works files asked) (λ page left. record {
      out = ap (λ (c : Contents). c.out) left;
      end = refl;
    })

kept : {call : Call} (files : Files) (asked : ReportArguments)
    → RunsOn call files IsAnswer (report asked) → call.new.host.files ≡ call.old.host.files
kept files asked r = keeps r.ran files r.told (writes-report asked)

-- where there is no room for a test, it is refused
rooms : {call : Call} (files : Files) (asked : ReportArguments)
    → RunsOn call files IsAnswer (report asked) → (inputs : Inputs)
    → inputs_in files asked.isa asked.families asked.groups ≡ Ok inputs
    → AsksForRoom call files inputs
rooms {call} files asked r inputs given =
    asks files inputs (page_in files asked) (reporting.HasShown call)
    (good-inputs files asked.isa asked.families asked.groups inputs given)
    (placed-inputs files asked.isa asked.families asked.groups inputs given)
    (asked-then inputs (tested_in files asked.isa asked.families asked.groups)
    (λ i. and_then (device_in files asked.device) (λ device.
    and_then (logs_in files file_name (counts_more asked.windows i.groups)
    (uncounted i.groups) asked.logs) (λ covered.
    Ok (page_with asked i device covered
    (all_shown_in files i.isa asked.work covered.counts i.groups)))))
    (asked-room inputs (inputs_in files asked.isa asked.families asked.groups) given))
    (answers-report files asked r)
    (λ is. untouched r.ran files r.told (stops-report asked) (inr is))
    (λ text refused files' other is.
    let both : Some files' ≡ Some files = sym is ∙ kept files asked r ∙ r.told.files in
    let same : files' ≡ files = cc in
    ap (λ (f : Files). f other) same)

pub reports : {call : Call} (files : Files) (asked : ReportArguments)
    → RunsOn call files IsAnswer (report asked) → reporting.Reports call files asked
reports {call} files asked r = record {
  answered = answers-report files asked r;
  passes = shown-passes files;
  all_pass = all-pass files asked;
  rooms = λ inputs given. rooms files asked r inputs given;
  apart = found-apart files;
  files_kept = kept files asked r;
}
