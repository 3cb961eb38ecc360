use Rattle.std.proofs.Common.{◌≡◌, ◌∙◌, sym, length, arith}
use Rattle.rvs_condition.proofs.Runs.{closed_end}
use Rattle.rvs_condition.proofs.places.behind_any.Goals as goal

pub returns : goal.returns
returns c =
    let at = c.loop-place.place-index in
    let e : at ≡ length c.args.places.now = omega (arith, c.loop-place-test.false) in
    sym (closed_end c.loop-place.next.items c.args.places.now c.loop-place.open at e)
    ∙ c.loop-place.invariant
