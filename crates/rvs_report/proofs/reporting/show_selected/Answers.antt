use Rattle.std.proofs.Common.{◌≡◌, List, [], ℕ, Option, Some, None, Result, sym, subst, rules, ◌∙◌}
use Rattle.std.proofs.lemmas.Result.{err_from_is_err_and}
use Rattle.rvs_plan.specs.World.{World, world, IsAnswer}
use Rattle.rvs_plan.specs.Plan.{gives}
use Rattle.rvs_plan.specs.Meets.{MeetsWith}
use Rattle.rvs_plan.specs.declared.stop.Stop.{Stop}
use Rattle.rvs_plan.proofs.Sequence.{Meets-no_memory}
use Rattle.rvs_insn.specs.Isa.{Isa}
use Rattle.rvs_cgf.specs.Groups.{Label}
use Rattle.rvs_cgf.specs.GroupView.{label_view}
use Rattle.rvs_page.specs.declared.shown.State.TheVariants as state
use Rattle.rvs_page.specs.declared.shown.Label.{Label as ShownLabel}
use Rattle.rvs_test.specs.Made.{claims_of, text_of_label}
use Rattle.rvs_test.specs.declared.made.Made.{Made}
use Rattle.rvs_test_text.specs.declared.claim.Claim.{Claim}
use Rattle.rvs_report.specs.Findings.{found_open}
use Rattle.rvs_generate.specs.GenerateView.{IsMade}
use Rattle.rvs_report.specs.Report.{shows_test, shows_by}
use Rattle.rvs_showing.specs.Showing.{shown_label}
use Rattle.rvs_generate.specs.declared.gathering.Test.{Test}
use Rattle.rvs_generate.proofs.Runnable.{runnable}
use Rattle.rvs_report.proofs.reporting.show_selected.Goals as goal

-- a label of which no test was made
untested : (isa : Isa) (work counts : List ℕ) (l : Label) (m : Made) (old new : World)
    (result : Result ShownLabel Stop) → IsMade isa l m → m.text ≡ None
    → MeetsWith IsAnswer (gives (shown_label (found_open state.NoTest) [] counts m.claims l)) old
    new result
    → MeetsWith IsAnswer (shows_by isa work counts l (text_of_label isa l)) old new result
untested isa work counts l m old new result is none-made met =
    subst (λ (text : Option (List ℕ)). MeetsWith IsAnswer (shows_by isa work counts l text) old new
    result) (sym none-made ∙ is.text)
    (subst (λ (claims : List Claim). MeetsWith IsAnswer
    (gives (shown_label (found_open state.NoTest) [] counts claims l)) old new result) is.claims
    met)

-- one of which this was made
tested : (isa : Isa) (work counts text : List ℕ) (l : Label) (m : Made) (test : Test)
    (old new : World) (result : Result ShownLabel Stop) → IsMade isa l m → m.text ≡ Some text
    → test ≡ record { name = l.name; text = text; steps = m.steps }
    → MeetsWith IsAnswer (shows_test isa work counts m.claims l test) old new result
    → MeetsWith IsAnswer (shows_by isa work counts l (text_of_label isa l)) old new result
tested isa work counts text l m test old new result is some this met =
    subst (λ (t : Option (List ℕ)). MeetsWith IsAnswer (shows_by isa work counts l t) old new
    result) (sym some ∙ is.text)
    (subst (λ (steps : ℕ). MeetsWith IsAnswer (shows_test isa work counts (claims_of isa l) l
    (record { name = l.name; text = text; steps = steps })) old new result) is.steps
    (subst (λ (claims : List Claim). MeetsWith IsAnswer (shows_test isa work counts claims l
    (record { name = l.name; text = text; steps = m.steps })) old new result) is.claims
    (subst (λ (t : Test). MeetsWith IsAnswer (shows_test isa work counts m.claims l t) old new
    result) this met)))

pub returns-in_err-made : goal.returns-in_err-made
returns-in_err-made g c = λ out.
    let p = err_from_is_err_and c.from_residual.result c.from_residual.ensures.1 in
    let l = label_view c.args.label.now in
    rw (p.1, p.2) (Meets-no_memory
    (shows_by c.args.isa c.args.work.now c.args.counts.now l (text_of_label c.args.isa l))
    (world (g.H.Host.state c.args.host.now) out))

pub returns-in-None : goal.returns-in-None
returns-in-None g c = λ out.
    let w = world (g.H.Host.state c.args.host.now) out in
    untested c.args.isa c.args.work.now c.args.counts.now (label_view c.args.label.now)
    c.in_ok-made.made w w _ c.in_ok-made.ensures c.in-None.is
    (rw c.as_slice.ensures at (c.show_untested-shown.ensures w))

pub returns-in_err-test-in-Some : goal.returns-in_err-test-in-Some
returns-in_err-test-in-Some g c = λ out.
    let p = err_from_is_err_and c.from_residual-in_err-test-in-Some.result
    c.from_residual-in_err-test-in-Some.ensures.1 in
    let l = label_view c.args.label.now in
    rw (p.1, p.2) (Meets-no_memory
    (shows_by c.args.isa c.args.work.now c.args.counts.now l (text_of_label c.args.isa l))
    (world (g.H.Host.state c.args.host.now) out))

pub returns-in_ok-test-in-Some : goal.returns-in_ok-test-in-Some
returns-in_ok-test-in-Some g c = λ out.
    tested c.args.isa c.args.work.now c.args.counts.now c.in-Some.text (label_view c.args.label.now)
    c.in_ok-made.made c.in_ok-test-in-Some.test _ _ _ c.in_ok-made.ensures c.in-Some.is
    c.in_ok-test-in-Some.ensures (rw c.as_slice-told.ensures at (c.show_test-shown.ensures out))

pub show_test-shown-requires : goal.show_test-shown-requires
show_test-shown-requires g c =
    let runs = runnable c.args.isa (label_view c.args.label.now) c.in-Some.text c.requires
    (sym c.in_ok-made.ensures.text ∙ c.in-Some.is) in
    search rules
