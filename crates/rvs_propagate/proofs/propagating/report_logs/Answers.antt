use Rattle.std.proofs.Common.{◌≡◌, List, ℕ, [], Result, Ok, sym, ap, subst, ◌∙◌}
use Rattle.std.proofs.Common.{length}
use Rattle.std.proofs.lemmas.Result.{err_from_is_err_and}
use Rattle.rvs_plan.specs.World.{World, world}
use Rattle.rvs_plan.specs.Plan.{gives}
use Rattle.rvs_plan.specs.Meets.{Meets}
use Rattle.rvs_plan.specs.declared.stop.Stop.{Stop}
use Rattle.rvs_plan.proofs.Sequence.{Meets-then, Meets-stop, Meets-gives, Meets-no_memory}
use Rattle.rvs_log.proofs.Telling.{told-nothing}
use Rattle.rvs_points.specs.declared.group.Label.{Label}
use Rattle.rvs_prop.specs.State.{TrackState, state_of}
use Rattle.rvs_prop.proofs.Ends.{all_labels}
use Rattle.rvs_index.specs.Counting.{aims_in}
use Rattle.rvs_inputs.specs.GroupsView.{groups_view}
use Rattle.rvs_propagate.specs.Propagate.{file_name, measure, more_by, report_on, tracks_more}
use Rattle.rvs_propagate.specs.Propagate.{untracked, AreLong}
use Rattle.rvs_propagate.specs.declared.propagating.Traced.{Traced}
use Rattle.rvs_words.specs.declared.command.SignedLog.{SignedLog}
use Rattle.rvs_coverage.specs.LogReport.{reports, takes_logs}
use Rattle.rvs_coverage.proofs.Tellings.{told-cut}
use Rattle.rvs_propagate.proofs.propagating.report_logs.Goals as goal

pub returns-in_err-none-clause-met : goal.returns-in_err-none-clause-met
returns-in_err-none-clause-met g c = λ out.
    let p = err_from_is_err_and c.from_residual.result c.from_residual.ensures.1 in
    rw (p.1, p.2) (Meets-no_memory _ (world (g.H.Host.state c.args.host.now) out))

pub returns-in_err-tracker-clause-met : goal.returns-in_err-tracker-clause-met
returns-in_err-tracker-clause-met g c = λ out.
    let p = err_from_is_err_and c.from_residual-in_err-tracker.result
    c.from_residual-in_err-tracker.ensures.1 in
    rw (p.1, p.2) (Meets-no_memory _ (world (g.H.Host.state c.args.host.now) out))

-- what the logs come to by the tracker that was made
as-asked : (labels : List Label) (logs given : List SignedLog) (tracker : TrackState)
    (none : Traced) {old new : World} {result : Result Traced Stop}
    → tracker ≡ state_of labels 0 0 [] 0 → none ≡ untracked (groups_view labels) → given ≡ logs
    → Meets (takes_logs file_name (more_by tracker) none given) old new result
    → Meets (takes_logs file_name (tracks_more (groups_view labels))
    (untracked (groups_view labels)) logs) old new result
as-asked labels logs given tracker none {old} {new} {result} is begun same met =
    let more : more_by tracker ≡ tracks_more (groups_view labels) =
    ap more_by is ∙ λ i. tracks_more (groups_view (all_labels labels 0 0 [] 0 i)) in
    subst (λ ls. Meets (takes_logs file_name (tracks_more (groups_view labels))
    (untracked (groups_view labels)) ls) old new result) same
    (subst (λ n. Meets (takes_logs file_name (tracks_more (groups_view labels)) n given)
    old new result) begun
    (subst (λ m. Meets (takes_logs file_name m none given) old new result) more met))

pub report_of-report-requires : goal.report_of-report-requires
report_of-report-requires g c =
    let n = length (aims_in c.args.groups.now) in
    c.in_ok-tracked.ensures.fits n
    (subst (AreLong n) (sym c.in_ok-tracker.ensures.both.1) c.in_ok-none.ensures.long)

pub returns-in_err-tracked-clause-met : goal.returns-in_err-tracked-clause-met
returns-in_err-tracked-clause-met g c = λ out.
    let p = err_from_is_err_and c.from_residual-in_err-tracked.result
    c.from_residual-in_err-tracked.ensures.1 in
    rw (p.1, p.2) (Meets-stop
    (reports measure c.args.asked.now.logs (groups_view c.args.groups.now))
    (as-asked c.args.groups.now c.args.asked.now.logs c.as_slice-logs.result.now
    c.in_ok-tracker.tracker c.in_ok-tracker.none
    (rw c.in_ok-tracker.ensures.both.0 at c.new_tracker-tracker.ensures)
    (c.in_ok-tracker.ensures.both.1 ∙ c.in_ok-none.ensures.tracked) c.as_slice-logs.ensures
    (c.in_err-tracked.ensures.met out)))

pub returns-in_err-report-clause-met : goal.returns-in_err-report-clause-met
returns-in_err-report-clause-met g c = λ out.
    let p = err_from_is_err_and c.from_residual-in_err-report.result
    c.from_residual-in_err-report.ensures.1 in
    rw (p.1, p.2) (Meets-then
    (reports measure c.args.asked.now.logs (groups_view c.args.groups.now))
    (as-asked c.args.groups.now c.args.asked.now.logs c.as_slice-logs.result.now
    c.in_ok-tracker.tracker c.in_ok-tracker.none
    (rw c.in_ok-tracker.ensures.both.0 at c.new_tracker-tracker.ensures)
    (c.in_ok-tracker.ensures.both.1 ∙ c.in_ok-none.ensures.tracked) c.as_slice-logs.ensures
    (c.in_ok-tracked.ensures.met out))
    (Meets-no_memory _ (world (g.H.Host.state c.take_onto-outcome.new.host) out)))

pub returns-clause-met : goal.returns-clause-met
returns-clause-met g c = λ out.
    let w = world (g.H.Host.state c.take_onto-outcome.new.host) out in
    let text = c.in_ok-report.field-0 in
    let is = c.in_ok-report.ensures
    ∙ ap (λ (logs : List SignedLog). report_on (groups_view c.args.groups.now) logs
    c.in_ok-tracked.tracked) c.as_slice-logs.ensures in
    Meets-then (reports measure c.args.asked.now.logs (groups_view c.args.groups.now))
    (as-asked c.args.groups.now c.args.asked.now.logs c.as_slice-logs.result.now
    c.in_ok-tracker.tracker c.in_ok-tracker.none
    (rw c.in_ok-tracker.ensures.both.0 at c.new_tracker-tracker.ensures)
    (c.in_ok-tracker.ensures.both.1 ∙ c.in_ok-none.ensures.tracked) c.as_slice-logs.ensures
    (c.in_ok-tracked.ensures.met out))
    (subst (λ (report : List ℕ). Meets (gives report) w w (Ok text)) is
    (Meets-gives text w))

pub returns-in_err-none-clause-told : goal.returns-in_err-none-clause-told
returns-in_err-none-clause-told g c =
    let p = err_from_is_err_and c.from_residual.result c.from_residual.ensures.1 in
    rw (p.1, p.2) (told-nothing _ _ _ _)

pub returns-in_err-tracker-clause-told : goal.returns-in_err-tracker-clause-told
returns-in_err-tracker-clause-told g c =
    let p = err_from_is_err_and c.from_residual-in_err-tracker.result
    c.from_residual-in_err-tracker.ensures.1 in
    rw (p.1, p.2) (told-nothing _ _ _ _)

pub returns-in_err-tracked-clause-told : goal.returns-in_err-tracked-clause-told
returns-in_err-tracked-clause-told g c =
    let p = err_from_is_err_and c.from_residual-in_err-tracked.result
    c.from_residual-in_err-tracked.ensures.1 in
    rw (p.1, p.2) (rw c.as_slice-logs.ensures at c.in_err-tracked.ensures.told)

pub returns-in_err-report-clause-told : goal.returns-in_err-report-clause-told
returns-in_err-report-clause-told g c =
    let p = err_from_is_err_and c.from_residual-in_err-report.result
    c.from_residual-in_err-report.ensures.1 in
    rw (p.1, p.2) (told-cut (rw c.as_slice-logs.ensures at c.in_ok-tracked.ensures.told))

pub returns-clause-told : goal.returns-clause-told
returns-clause-told g c = rw c.as_slice-logs.ensures at c.in_ok-tracked.ensures.told
