use Rattle.std.proofs.Common.{◌≡◌, [], Ok, sym, ap, subst, ◌∙◌}
use Rattle.std.proofs.lemmas.Result.{err_from_is_err_and}
use Rattle.rvs_plan.specs.World.{IsAnswer}
use Rattle.rvs_plan.specs.Plan.{gives}
use Rattle.rvs_plan.specs.Meets.{MeetsWith}
use Rattle.rvs_plan.proofs.Sequence.{Meets-gives, Meets-no_memory}
use Rattle.rvs_cgf.specs.GroupView.{label_view}
use Rattle.rvs_page.specs.declared.shown.State.TheVariants as state
use Rattle.rvs_page.specs.declared.shown.Label.{Label as ShownLabel}
use Rattle.rvs_report.specs.Findings.{found_open}
use Rattle.rvs_showing.specs.Showing.{shown_label}
use Rattle.rvs_showing.specs.declared.found.Found.{Found}
use Rattle.rvs_report.proofs.reporting.show_untested.Goals as goal

pub returns-in_err-shown : goal.returns-in_err-shown
returns-in_err-shown c = λ w.
    let p = err_from_is_err_and c.from_residual.result c.from_residual.ensures.1 in
    rw (p.1, p.2) (Meets-no_memory (gives (shown_label (found_open state.NoTest) []
    c.args.counts.now c.args.claims.now (label_view c.args.label.now))) w)

pub returns : goal.returns
returns c = λ w.
    let counts = c.args.counts.now in
    let claims = c.args.claims.now in
    let l = label_view c.args.label.now in
    let shown = shown_label (found_open state.NoTest) [] counts claims l in
    let is : c.in_ok-shown.field-0 ≡ shown = c.in_ok-shown.ensures
    ∙ ap (λ (f : Found). shown_label f [] counts claims l) c.found_open-found.ensures in
    subst (λ (s : ShownLabel). MeetsWith IsAnswer (gives shown) w w (Ok s)) (sym is)
    (Meets-gives shown w)
