use Rattle.std.proofs.Common.{◌≡◌, ◌∙◌, sym, length, arith}
use Rattle.rvs_condition.proofs.Runs.{none_end}
use Rattle.rvs_condition.proofs.places.first_place.Goals as goal

pub returns : goal.returns
returns c =
    let e : c.loop-i.i ≡ length c.args.text.now = omega (arith, c.loop-i-test.false) in
    sym (none_end c.loop-i.places.items c.args.text.now c.loop-i.i e) ∙ c.loop-i.invariant
