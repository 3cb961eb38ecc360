use Rattle.std.proofs.Common.{◌<◌, ◌++◌, ◌∷◌, [], ◌∙◌, List, length, take, ap, sym, subst, arith}
use Rattle.std.proofs.Common.{append-nil}
use Rattle.rvs_cgf.specs.PointKeys.{AreKeysOf}
use Rattle.rvs_points.specs.declared.group.Point.{Point}
use Rattle.rvs_cgf.proofs.PointSets.{next, whole}
use Rattle.rvs_cgf.proofs.points.add_pairs.Goals as goal

pub loop-point-init : goal.loop-point-init
loop-point-init c =
    λ ps h. subst (λ (qs : List Point). AreKeysOf c.args.known.now qs) (sym (append-nil ps)) h

pub loop-point-preserved : goal.loop-point-preserved
loop-point-preserved c = λ ps h.
    let more = c.args.more.now in
    let i = c.loop-point.point-index in
    let point = c.point-item.result in
    let below : i < length more = omega (arith, c.loop-point-test.true) in
    subst (λ (qs : List Point). AreKeysOf c.add_pair.new.known qs)
    (ap (λ p. (ps ++ take i more) ++ (p ∷ [])) c.point-item.is ∙ next ps more i point below)
    (c.in_ok-add_pair.ensures (ps ++ take i more) (c.loop-point.invariant ps h))

pub returns : goal.returns
returns c = λ ps h.
    subst (λ (qs : List Point). AreKeysOf c.loop-point.known qs)
    (whole ps c.args.more.now c.loop-point.point-index c.loop-point-test.false
    c.loop-point.auto.point-index-end) (c.loop-point.invariant ps h)
