use Rattle.std.proofs.Common.{◌≡◌, ◌<◌, ◌≤◌, ◌∙◌, ◌++◌, ℕ, List, length, map, sym, ap, subst}
use Rattle.std.specs.Prelude.{All}
use Rattle.rvs_insn.specs.Isa.{Isa}
use Rattle.rvs_insn.specs.Memory.{HasRoom}
use Rattle.rvs_points.specs.PointView.{label_view}
use Rattle.rvs_choice.specs.declared.solved.Solved.{Solved}
use Rattle.rvs_test_text.specs.declared.claim.Claim.{Claim}
use Rattle.rvs_test_text.specs.TestText.{ended, front, claim_lines, line_of_claim}
use Rattle.rvs_test_text.specs.Claim.{AreReady}
use Rattle.rvs_test_text.proofs.Fits.{regions_fit}
use Rattle.rvs_test.specs.Made.{named_at, claims_of, cases_of}
use Rattle.rvs_test.proofs.Ends.{same_length}
use Rattle.rvs_test.proofs.Grows.{text_there}
use Rattle.rvs_test.proofs.Joined.{runs_there}
use Rattle.rvs_test.proofs.ReadBack.{back_there}
use Rattle.rvs_test.proofs.Solvings.{cases_ready, cases_few, claims_below, lines_of_claims}
use Rattle.rvs_test.proofs.making.test_text.Goals as goal

pub push_claims-requires : goal.push_claims-requires
push_claims-requires c =
    let l = label_view c.args.label.now in
    let P : List Claim → Type 0 =
    λ ds. All (λ (x : Claim). x.point < length c.args.label.now.points) ds in
    let Q : ℕ → List Claim → Type 0 = λ n ds. All (λ (x : Claim). x.point < n) ds in
    subst P (sym c.requires.claims)
    (subst (λ n. Q n (claims_of c.args.spec.now l)) (same_length c.args.label.now)
    (claims_below c.args.spec.now l))

pub push_code-requires-clause-few : goal.push_code-requires-clause-few
push_code-requires-clause-few c =
    let P : List Solved → Type 0 = λ cs. length cs ≤ 2048 in
    subst P (sym c.requires.cases)
    (cases_few c.args.spec.now (label_view c.args.label.now) c.requires.valid)

pub push_code-requires-clause-ready : goal.push_code-requires-clause-ready
push_code-requires-clause-ready c =
    subst (AreReady c.args.spec.now) (sym c.requires.cases)
    (cases_ready c.args.spec.now
    (subst HasRoom (ap (λ (s : Isa). s.memory) c.spec.view_is) c.text_limit-limit.ensures.room)
    (label_view c.args.label.now) c.requires.valid)

pub push_data-requires : goal.push_data-requires
push_data-requires c =
    let P : List Solved → Type 0 = λ cs. length cs ≤ 2048 in
    subst P (sym c.requires.cases)
    (cases_few c.args.spec.now (label_view c.args.label.now) c.requires.valid)

pub returns-clause-text : goal.returns-clause-text
returns-clause-text c =
    let l = label_view c.args.label.now in
    let isa = c.args.spec.now in
    let name = c.args.label.now.name in
    let ps = map (λ (x : Claim). named_at l x.point) c.args.claims.now in
    let ls = map (line_of_claim (named_at l)) c.args.claims.now in
    let P : List Claim → Type 0 =
    λ ds. claim_lines 0 (map (λ (x : Claim). named_at l x.point) ds)
    ≡ map (line_of_claim (named_at l)) ds in
    text_there isa name ps c.args.cases.now ls c.push_front.new.out c.push_claims.new.out
    c.push_code.new.out c.push_data.new.out
    (subst P (sym c.requires.claims) (lines_of_claims isa l (named_at l)))
    (c.in_ok-push_front.ensures
    ∙ ap (λ x. x ++ ended (front c.as_str.result.now isa c.args.steps)) c.new-out.ensures
    ∙ ap (λ n. ended (front n isa c.args.steps)) c.as_str.ensures
    ∙ ap (λ n. ended (front name isa n)) c.requires.steps)
    c.in_ok-push_claims.ensures
    c.in_ok-push_code.ensures
    c.in_ok-push_data.ensures

pub returns-clause-runs : goal.returns-clause-runs
returns-clause-runs c = λ is.
    runs_there c.args.spec.now
    (subst HasRoom (ap (λ (s : Isa). s.memory) c.spec.view_is) c.text_limit-limit.ensures.room)
    (label_view c.args.label.now) c.requires.valid
    (regions_fit c.args.spec.now (cases_of c.args.spec.now (label_view c.args.label.now)) is)
    c.push_data.new.out c.args.claims.now c.args.cases.now c.args.steps c.requires.claims
    c.requires.cases c.requires.steps (returns-clause-text c)

pub returns-clause-read : goal.returns-clause-read
returns-clause-read c =
    back_there c.args.spec.now
    (subst HasRoom (ap (λ (s : Isa). s.memory) c.spec.view_is) c.text_limit-limit.ensures.room)
    (label_view c.args.label.now) c.requires.valid
    c.push_data.new.out c.args.claims.now c.args.cases.now c.requires.claims c.requires.cases
    (returns-clause-text c)
