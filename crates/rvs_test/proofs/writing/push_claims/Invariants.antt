use Rattle.std.proofs.Common.{◌≡◌, ◌++◌, map, take}
use Rattle.rvs_points.specs.PointView.{label_view}
use Rattle.rvs_test_text.specs.TestText.{ended, line_of_claim}
use Rattle.rvs_test.specs.Made.{named_at}
use Rattle.rvs_test.proofs.writing.push_claims.Given as goal

abbrev pub invariant-loop-claim : goal.invariant-loop-claim
invariant-loop-claim l =
    l.out ≡ l.fn.out ++ ended
    (map (line_of_claim (named_at (label_view l.label))) (take l.claim-index l.claims))
