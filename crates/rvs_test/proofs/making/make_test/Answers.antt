use Rattle.std.proofs.Common.{◌≤◌, ◌<◌, ◌∙◌, ℕ, List, length, ap, sym, subst}
use Rattle.std.specs.Prelude.{Contains}
use Rattle.rvs_points.specs.PointView.{label_view}
use Rattle.rvs_choice.specs.declared.solved.Solved.{Solved}
use Rattle.rvs_test_text.specs.declared.claim.Claim.{Claim}
use Rattle.rvs_test_text.specs.TestText.{step_limit}
use Rattle.rvs_test.specs.declared.finding.Found.{Found}
use Rattle.rvs_test.specs.Made.{claims_of, text_for}
use Rattle.rvs_test.specs.Claimed.{IsAccounted}
use Rattle.rvs_test.proofs.Ends.{same_length}
use Rattle.rvs_test.proofs.Joined.{accounted, left_unsolvable}
use Rattle.rvs_test.proofs.Solvings.{cases_few}
use Rattle.rvs_test.proofs.making.make_test.Goals as goal

pub step_limit-limit-requires : goal.step_limit-limit-requires
step_limit-limit-requires g c =
    let P : List Solved → Type 0 = λ cs. length cs ≤ 2048 in
    subst P (sym (c.as_slice.ensures ∙ c.in_ok-found.ensures.cases))
    (cases_few c.args.spec.now (label_view c.args.label.now) c.requires)

pub returns-clause-text : goal.returns-clause-text
returns-clause-text g c =
    (rw c.in_ok-text.ensures.both.0 at c.text_for-text.ensures.text)
    ∙ ap (text_for c.args.spec.now (label_view c.args.label.now))
    (c.as_slice-3.ensures ∙ c.in_ok-found.ensures.cases)

pub returns-clause-claims : goal.returns-clause-claims
returns-clause-claims g c =
    ap (λ (f : Found). f.claims) c.in_ok-text.ensures.both.1 ∙ c.in_ok-found.ensures.claims

pub returns-clause-unsolved : goal.returns-clause-unsolved
returns-clause-unsolved g c =
    ap (λ (f : Found). f.unsolved) c.in_ok-text.ensures.both.1 ∙ c.in_ok-found.ensures.unsolved

pub returns-clause-steps : goal.returns-clause-steps
returns-clause-steps g c =
    c.step_limit-limit.ensures ∙ ap step_limit (c.as_slice.ensures ∙ c.in_ok-found.ensures.cases)

pub returns-clause-accounted : goal.returns-clause-accounted
returns-clause-accounted g c = λ k h.
    let l = label_view c.args.label.now in
    let isa = c.args.spec.now in
    let P : List Claim → Type 0 = λ ds. IsAccounted isa l ds c.in_ok-text.found.unsolved k in
    let Q : List ℕ → Type 0 = λ us. IsAccounted isa l (claims_of isa l) us k in
    subst P (sym (returns-clause-claims g c))
    (subst Q (sym (returns-clause-unsolved g c))
    (accounted isa l k (subst (λ n. k < n) (sym (same_length c.args.label.now)) h)))

pub returns-clause-unsolvable : goal.returns-clause-unsolvable
returns-clause-unsolvable g c = λ k h.
    let l = label_view c.args.label.now in
    left_unsolvable c.args.spec.now l k
    (subst (λ us. Contains us k) (returns-clause-unsolved g c) h)
