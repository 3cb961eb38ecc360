use Rattle.std.proofs.Common.{◌≡◌, ◌<◌, ◌∙◌, sym, ap, arith, w64, to_z, of_z}
use Rattle.std.proofs.lemmas.Int.{to_z-of_z}
use Rattle.rvs_abstract.specs.CallView.{ranged_view}
use Rattle.rvs_cgf.specs.Groups.{add, add_kth, count_of, value_point}
use Rattle.rvs_cgf.specs.GroupView.{taken_view, refusal_view}
use Rattle.rvs_cgf.specs.PlaceView.{place_view}
use Rattle.rvs_cgf.proofs.Loops.{step-more, step-fails}
use Rattle.rvs_cgf.proofs.families.family_values.Goals as goal

pub loop-k-preserved : goal.loop-k-preserved
loop-k-preserved c =
    let f = ranged_view c.args.f.now in
    let at = place_view c.args.place in
    let t = taken_view c.loop-k.taken in
    let same : to_z w64 (of_z w64 c.value.result) ≡ c.value.result =
    to_z-of_z w64 _ (record { sfits = c.value.type_inv }) in
    let made = ap (λ p. add at p t) (c.in_ok-point.ensures
    ∙ ap (λ z. value_point f.var z) (same ∙ c.value.ensures.value)) in
    let below : c.loop-k.k < count_of f =
    omega (arith, c.loop-k-test.true, c.len-k-end.ensures) in
    step-more (add_kth at f) (count_of f) c.loop-k.k t (taken_view c.add.new.taken) below
    (sym made ∙ c.in-Ok.ensures)
    ∙ c.loop-k.invariant

pub returns-in-Err : goal.returns-in-Err
returns-in-Err c = λ refusal is.
    let f = ranged_view c.args.f.now in
    let at = place_view c.args.place in
    let t = taken_view c.loop-k.taken in
    let same : to_z w64 (of_z w64 c.value.result) ≡ c.value.result =
    to_z-of_z w64 _ (record { sfits = c.value.type_inv }) in
    let made = ap (λ p. add at p t) (c.in_ok-point.ensures
    ∙ ap (λ z. value_point f.var z) (same ∙ c.value.ensures.value)) in
    let below : c.loop-k.k < count_of f =
    omega (arith, c.loop-k-test.true, c.len-k-end.ensures) in
    sym c.loop-k.invariant
    ∙ step-fails (add_kth at f) (count_of f) c.loop-k.k t (refusal_view refusal) below
    (sym made ∙ c.in-Err.ensures refusal is)
