use Rattle.std.proofs.Common.{◌≡◌, List, ℕ, Ok, sym, ap, subst, ◌∙◌}
use Rattle.std.proofs.lemmas.Result.{err_from_is_err_and}
use Rattle.rvs_plan.specs.World.{world, IsAnswer}
use Rattle.rvs_plan.specs.Plan.{Plan, gives}
use Rattle.rvs_plan.specs.Meets.{MeetsWith}
use Rattle.rvs_plan.proofs.Sequence.{Meets-then, Meets-stop, Meets-gives, Meets-no_memory}
use Rattle.rvs_cgf.specs.Groups.{Label}
use Rattle.rvs_cgf.specs.GroupView.{label_view}
use Rattle.rvs_page.specs.declared.shown.Label.{Label as ShownLabel}
use Rattle.rvs_test_text.specs.declared.claim.Claim.{Claim}
use Rattle.rvs_showing.specs.Showing.{shown_label}
use Rattle.rvs_showing.specs.declared.found.Found.{Found}
use Rattle.rvs_report.proofs.reporting.show_test.Goals as goal

-- what follows when it is known what is found
abbrev next : List ℕ → List ℕ → List Claim → Label → Found → Plan ShownLabel
next text counts claims l found = gives (shown_label found text counts claims l)

pub returns-in_err-found : goal.returns-in_err-found
returns-in_err-found g c = λ out.
    let p = err_from_is_err_and c.from_residual.result c.from_residual.ensures.1 in
    rw (p.1, p.2) (Meets-stop (next c.args.test.now.text c.args.counts.now c.args.claims.now
    (label_view c.args.label.now)) (c.in_err-found.ensures out))

pub returns-in_err-shown : goal.returns-in_err-shown
returns-in_err-shown g c = λ out.
    let p = err_from_is_err_and c.from_residual-in_err-shown.result
    c.from_residual-in_err-shown.ensures.1 in
    let following = next c.args.test.now.text c.args.counts.now c.args.claims.now
    (label_view c.args.label.now) in
    rw (p.1, p.2) (Meets-then following (c.in_ok-found.ensures out)
    (Meets-no_memory (following c.in_ok-found.found)
    (world (g.H.Host.state c.find_test.new.host) out)))

pub returns : goal.returns
returns g c = λ out.
    let text = c.args.test.now.text in
    let counts = c.args.counts.now in
    let claims = c.args.claims.now in
    let l = label_view c.args.label.now in
    let found = c.in_ok-found.found in
    let w = world (g.H.Host.state c.find_test.new.host) out in
    let shown = shown_label found text counts claims l in
    let is : c.in_ok-shown.field-0 ≡ shown = c.in_ok-shown.ensures
    ∙ ap (λ (bytes : List ℕ). shown_label found bytes counts claims l)
    (c.as_bytes-text.ensures.value ∙ c.as_str.ensures) in
    Meets-then (next text counts claims l) (c.in_ok-found.ensures out)
    (subst (λ (s : ShownLabel). MeetsWith IsAnswer (gives shown) w w (Ok s)) (sym is)
    (Meets-gives shown w))
