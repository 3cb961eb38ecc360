use Rattle.std.proofs.Common.{◌<◌, ◌∙◌, length, get_or, ap, sym, arith, rules, FitsSigned}
use Rattle.std.proofs.Common.{take_all, to_z, of_z}
use Rattle.std.specs.Prelude.{pos, flat_map, fold}
use Rattle.std.specs.Int.{w64}
use Rattle.std.proofs.lemmas.Int.{to_z-of_z}
use Rattle.rvs_solver.specs.Datasets.{dataset, with_number, around}
use Rattle.rvs_solver.proofs.Sets.{one_more}
use Rattle.rvs_solver.proofs.datasets.dataset.Goals as goal

pub loop-c-preserved : goal.loop-c-preserved
loop-c-preserved c =
    let xs = c.args.constants.now in
    let i = c.loop-c.c-index in
    let low = to_z w64 (of_z w64 c.args.low) in
    let high = to_z w64 (of_z w64 c.args.high) in
    let below : i < length xs = omega (arith, c.loop-c-test.true) in
    let fits : FitsSigned w64 (get_or xs i (pos 0)) = search rules in
    (rw (to_z-of_z _ _ fits) at c.in_ok-join_around.ensures)
    ∙ ap (λ l. fold (with_number low high) l (around (get_or xs i (pos 0)))) c.loop-c.invariant
    ∙ sym (one_more low high c.args.fixed.now xs i below)

pub returns : goal.returns
unfolding dataset
returns c =
    let xs = c.args.constants.now in
    let fixed = c.args.fixed.now in
    let low = to_z w64 (of_z w64 c.args.low) in
    let high = to_z w64 (of_z w64 c.args.high) in
    c.loop-c.invariant
    ∙ ap (λ l. fold (with_number low high) fixed (flat_map around l))
    (take_all c.loop-c.c-index xs c.loop-c-test.false)
    ∙ ap (λ z. fold (with_number z high) fixed (flat_map around xs)) (to_z-of_z _ _ c.ranges.low)
    ∙ ap (λ z. fold (with_number c.args.low z) fixed (flat_map around xs))
    (to_z-of_z _ _ c.ranges.high)
