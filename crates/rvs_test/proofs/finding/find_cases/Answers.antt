use Rattle.std.proofs.Common.{◌∙◌, length, ap, refl}
use Rattle.rvs_points.specs.PointView.{label_view}
use Rattle.rvs_test.specs.Found.{found_view}
use Rattle.rvs_test.proofs.Ends.{all_cases, all_claims, all_unsolved}
use Rattle.rvs_test.proofs.finding.find_cases.Goals as goal

pub add_points-requires-clause-none : goal.add_points-requires-clause-none
add_points-requires-clause-none g c = c.nothing-found.ensures

pub returns-clause-cases : goal.returns-clause-cases
returns-clause-cases g c =
    let l = label_view c.args.label.now in
    all_cases c.args.spec.now l (found_view c.in_ok-found.found) (length l.points)
    (ap found_view c.in_ok-found.ensures.both.1
    ∙ (rw c.in_ok-found.ensures.both.0 at c.add_points.ensures.found)) refl

pub returns-clause-claims : goal.returns-clause-claims
returns-clause-claims g c =
    let l = label_view c.args.label.now in
    all_claims c.args.spec.now l (found_view c.in_ok-found.found) (length l.points)
    (ap found_view c.in_ok-found.ensures.both.1
    ∙ (rw c.in_ok-found.ensures.both.0 at c.add_points.ensures.found)) refl

pub returns-clause-unsolved : goal.returns-clause-unsolved
returns-clause-unsolved g c =
    let l = label_view c.args.label.now in
    all_unsolved c.args.spec.now l (found_view c.in_ok-found.found) (length l.points)
    (ap found_view c.in_ok-found.ensures.both.1
    ∙ (rw c.in_ok-found.ensures.both.0 at c.add_points.ensures.found)) refl
