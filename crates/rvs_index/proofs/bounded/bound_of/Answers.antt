use Rattle.std.proofs.Common.{◌≡◌, rules, to_z, of_z, w64}
use Rattle.std.proofs.lemmas.Int.{to_z-of_z}
use Rattle.std.specs.Prelude.{FitsSigned}
use Rattle.rvs_index.proofs.Bounding.{bound_more}
use Rattle.rvs_index.proofs.bounded.bound_of.Goals as goal

pub loop-slot-preserved : goal.loop-slot-preserved
loop-slot-preserved c =
    let first : FitsSigned w64 c.in_ok-one.one = search rules in
    let second : FitsSigned w64 c.in_ok-one.other = search rules in
    let same : to_z w64 (of_z w64 c.in_ok-one.one) ≡ c.in_ok-one.one = to_z-of_z _ _ first in
    let alike : to_z w64 (of_z w64 c.in_ok-one.other) ≡ c.in_ok-one.other = to_z-of_z _ _ second in
    let fits : FitsSigned w64 c.in_ok-value.value = search rules in
    let own : to_z w64 (of_z w64 c.in_ok-value.value) ≡ c.in_ok-value.value = to_z-of_z _ _ fits in
    rw (same, alike) (bound_more c.args.asked c.args.slots.now c.loop-slot.slot-index
    c.slot-item.result c.in_ok-value.value (to_z w64 c.loop-slot.first-bits)
    (to_z w64 c.loop-slot.second-bits) c.in_ok-one.one
    c.in_ok-one.other c.loop-slot.invariant c.loop-slot-test.true c.slot-item.is
    c.in_ok-value.ensures (rw own at c.in_ok-one.ensures))
