use Rattle.std.proofs.Common.{Bool, Ok, cond, sym, subst}
use Rattle.std.proofs.lemmas.Result.{err_from_is_err_and}
use Rattle.rvs_plan.specs.World.{world, IsAnswer}
use Rattle.rvs_plan.specs.Plan.{gives}
use Rattle.rvs_plan.specs.Meets.{MeetsWith}
use Rattle.rvs_plan.proofs.Sequence.{Meets-gives, Meets-no_memory}
use Rattle.rvs_cgf.specs.GroupView.{label_view}
use Rattle.rvs_page.specs.declared.shown.Label.{Label as ShownLabel}
use Rattle.rvs_test.specs.Made.{text_of_label}
use Rattle.rvs_report.specs.Report.{shows_by, shows_label}
use Rattle.rvs_showing.specs.Showing.{shown_unselected}
use Rattle.rvs_report.proofs.reporting.show_label.Goals as goal

pub returns-then-label : goal.returns-then-label
returns-then-label g c = λ out.
    let isa = c.args.isa in
    let l = label_view c.args.label.now in
    let old = world (g.H.Host.state c.args.host.now) out in
    let new = world (g.H.Host.state c.show_selected.new.host) out in
    subst (λ (selected : Bool). MeetsWith IsAnswer (cond selected
    (shows_by isa c.args.work.now c.args.counts.now l (text_of_label isa l))
    (gives (shown_unselected l))) old new c.show_selected.result) (sym c.if-label.true)
    (c.show_selected.ensures out)

pub returns-in_err-shown : goal.returns-in_err-shown
returns-in_err-shown g c = λ out.
    let p = err_from_is_err_and c.from_residual.result c.from_residual.ensures.1 in
    rw (p.1, p.2) (Meets-no_memory
    (shows_label c.args.isa c.args.work.now c.args.counts.now (label_view c.args.label.now))
    (world (g.H.Host.state c.args.host.now) out))

pub returns-in_ok-shown : goal.returns-in_ok-shown
returns-in_ok-shown g c = λ out.
    let isa = c.args.isa in
    let l = label_view c.args.label.now in
    let w = world (g.H.Host.state c.args.host.now) out in
    let shown = shown_unselected l in
    subst (λ (selected : Bool). MeetsWith IsAnswer (cond selected
    (shows_by isa c.args.work.now c.args.counts.now l (text_of_label isa l)) (gives shown)) w w
    (Ok c.in_ok-shown.shown)) (sym c.if-label.false)
    (subst (λ (s : ShownLabel). MeetsWith IsAnswer (gives shown) w w (Ok s))
    (sym c.in_ok-shown.ensures) (Meets-gives shown w))
