use Rattle.std.proofs.Common.{◌+◌, ◌++◌, ◌∷◌, [], ◌∙◌, map, take, arith}
use Rattle.rvs_points.specs.PointView.{label_view}
use Rattle.rvs_test_text.specs.TestText.{ended, line_of_claim}
use Rattle.rvs_test.specs.Made.{named_at}
use Rattle.rvs_test.proofs.Grows.{grows, same_at, claim_more}
use Rattle.rvs_test.proofs.writing.push_claims.Goals as goal

pub loop-claim-preserved : goal.loop-claim-preserved
loop-claim-preserved c =
    let i = c.loop-claim.claim-index in
    let cs = c.args.claims.now in
    let l = c.args.label.now in
    let f = line_of_claim (named_at (label_view l)) in
    let p = c.index-as_slice-claim.result in
    grows c.args.out.now c.loop-claim.out c.push_line.new.out (ended (map f (take i cs)))
    (ended (map f (take (i + 1) cs))) (c.as_str.result.now ++ 10 ∷ []) c.loop-claim.invariant
    c.in_ok-push_line.ensures
    (claim_more l cs i _ c.as_str.result.now p (omega arith)
    (c.as_str.ensures ∙ c.in_ok-line.ensures) (c.requires i _ (omega arith))
    (same_at c.as_slice.result.now l.points _ p c.as_slice.ensures c.index-as_slice-claim.is))
