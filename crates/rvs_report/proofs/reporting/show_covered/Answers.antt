use Rattle.std.proofs.Common.{List, Ok, sym, subst}
use Rattle.std.proofs.lemmas.Result.{err_from_is_err_and}
use Rattle.rvs_plan.specs.World.{world, IsAnswer}
use Rattle.rvs_plan.specs.Plan.{Plan, gives}
use Rattle.rvs_plan.specs.Meets.{MeetsWith}
use Rattle.rvs_plan.proofs.Sequence.{Meets-then, Meets-stop, Meets-gives, Meets-no_memory}
use Rattle.rvs_device.specs.DeviceFile.{Told}
use Rattle.rvs_device.specs.DeviceView.{told}
use Rattle.rvs_page.specs.declared.shown.Label.{Label as ShownLabel}
use Rattle.rvs_page.specs.declared.shown.Page.{Page}
use Rattle.rvs_inputs.specs.GroupFiles.{Inputs}
use Rattle.rvs_inputs.specs.GroupsView.{inputs_view}
use Rattle.rvs_report.specs.Report.{page_with}
use Rattle.rvs_coverage.specs.declared.covering.Covered.{Covered}
use Rattle.rvs_words.specs.declared.command.ReportArguments.{ReportArguments}
use Rattle.rvs_report.proofs.reporting.show_covered.Goals as goal

-- what follows when the labels are shown
abbrev with_labels : ReportArguments → Inputs → Told → Covered → List ShownLabel → Plan Page
with_labels asked inputs device covered labels =
    gives (page_with asked inputs device covered labels)

pub returns-in_err-labels : goal.returns-in_err-labels
returns-in_err-labels g c = λ out.
    let p = err_from_is_err_and c.from_residual.result c.from_residual.ensures.1 in
    let inputs = inputs_view c.args.inputs.now in
    let device = told c.args.device.now in
    let shown = rw (c.as_slice-groups.ensures, c.as_slice-counts.ensures) at
    (c.in_err-labels.ensures out) in
    rw (p.1, p.2) (Meets-stop (with_labels c.args.asked.now inputs device c.args.covered.now) shown)

pub returns-in_err-page_with : goal.returns-in_err-page_with
returns-in_err-page_with g c = λ out.
    let p = err_from_is_err_and c.from_residual-in_err-page_with.result
    c.from_residual-in_err-page_with.ensures.1 in
    let inputs = inputs_view c.args.inputs.now in
    let device = told c.args.device.now in
    let following = with_labels c.args.asked.now inputs device c.args.covered.now in
    let w = world (g.H.Host.state c.show_labels.new.host) out in
    let shown = rw (c.as_slice-groups.ensures, c.as_slice-counts.ensures) at
    (c.in_ok-labels.ensures out) in
    rw (p.1, p.2) (Meets-then following shown
    (Meets-no_memory (following c.in_ok-labels.labels) w))

pub returns : goal.returns
returns g c = λ out.
    let asked = c.args.asked.now in
    let inputs = inputs_view c.args.inputs.now in
    let device = told c.args.device.now in
    let covered = c.args.covered.now in
    let w = world (g.H.Host.state c.show_labels.new.host) out in
    let shown = rw (c.as_slice-groups.ensures, c.as_slice-counts.ensures) at
    (c.in_ok-labels.ensures out) in
    let page = page_with asked inputs device covered c.in_ok-labels.labels in
    Meets-then (with_labels asked inputs device covered) shown
    (subst (λ (made : Page). MeetsWith IsAnswer (gives page) w w (Ok made))
    (sym c.in_ok-page_with.ensures) (Meets-gives page w))
