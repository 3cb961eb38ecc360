use Rattle.std.proofs.Common.{[]}
use Rattle.std.proofs.lemmas.Result.{err_from_is_err_and}
use Rattle.rvs_plan.specs.Plan.{Plan, gives, ◌>>=◌}
use Rattle.rvs_plan.proofs.Sequence.{Meets-then, Meets-stop, Meets-weaker}
use Rattle.rvs_device.specs.DeviceFile.{Told}
use Rattle.rvs_device.specs.DeviceView.{told}
use Rattle.rvs_page.specs.declared.shown.Page.{Page}
use Rattle.rvs_coverage.specs.Coverage.{uncounted, counts_more, file_name}
use Rattle.rvs_inputs.specs.GroupFiles.{Inputs}
use Rattle.rvs_inputs.specs.GroupsView.{inputs_view}
use Rattle.rvs_coverage.specs.LogReport.{takes_logs}
use Rattle.rvs_report.specs.Report.{page_with, shows_labels}
use Rattle.rvs_coverage.specs.declared.covering.Covered.{Covered}
use Rattle.rvs_words.specs.declared.command.ReportArguments.{ReportArguments}
use Rattle.rvs_report.proofs.reporting.show_page.Goals as goal

-- what follows when the logs are read, and when the device is
abbrev with_logs : ReportArguments → Inputs → Told → Covered → Plan Page
with_logs asked inputs device covered =
    shows_labels inputs.isa asked.work [] covered.counts inputs.groups
    >>= (λ labels. gives (page_with asked inputs device covered labels))

abbrev with_device : ReportArguments → Inputs → Told → Plan Page
with_device asked inputs device =
    takes_logs file_name (counts_more asked.windows inputs.groups) (uncounted inputs.groups)
    asked.logs >>= with_logs asked inputs device

pub returns-in_err-device : goal.returns-in_err-device
returns-in_err-device g c = λ out.
    let p = err_from_is_err_and c.from_residual.result c.from_residual.ensures.1 in
    let inputs = inputs_view c.args.inputs.now in
    rw (p.1, p.2) (Meets-weaker (Meets-stop (with_device c.args.asked.now inputs)
    (c.in_err-device.ensures out)))

pub returns-in_err-covered : goal.returns-in_err-covered
returns-in_err-covered g c = λ out.
    let p = err_from_is_err_and c.from_residual-in_err-covered.result
    c.from_residual-in_err-covered.ensures.1 in
    let asked = c.args.asked.now in
    let inputs = inputs_view c.args.inputs.now in
    let device = told c.in_ok-device.device in
    let counted = rw (c.as_slice-windows.ensures, c.as_slice-logs.ensures) at
    (c.in_err-covered.ensures.met out) in
    rw (p.1, p.2) (Meets-weaker (Meets-then (with_device asked inputs) (c.in_ok-device.ensures out)
    (Meets-stop (with_logs asked inputs device) counted)))

pub returns : goal.returns
returns g c = λ out.
    let asked = c.args.asked.now in
    let inputs = inputs_view c.args.inputs.now in
    let device = told c.in_ok-device.device in
    let counted = rw (c.as_slice-windows.ensures, c.as_slice-logs.ensures) at
    (c.in_ok-covered.ensures.met out) in
    Meets-then (with_device asked inputs) (Meets-weaker (c.in_ok-device.ensures out))
    (Meets-then (with_logs asked inputs device) (Meets-weaker counted)
    (c.show_covered-page.ensures out))
