use Rattle.std.proofs.Common.{◌≡◌, ◌<◌, ◌∙◌, sym, ap, arith, w64, to_z, of_z}
use Rattle.std.proofs.lemmas.Int.{to_z-of_z}
use Rattle.rvs_abstract.specs.CallView.{ranged_view}
use Rattle.rvs_cgf.specs.Groups.{add, add_pair, count_of, pair_point, kth}
use Rattle.rvs_cgf.specs.GroupView.{taken_view, refusal_view}
use Rattle.rvs_cgf.specs.PlaceView.{place_view}
use Rattle.rvs_cgf.proofs.Loops.{step-more, step-fails}
use Rattle.rvs_cgf.proofs.families.with_jth.Goals as goal

pub loop-k-preserved : goal.loop-k-preserved
loop-k-preserved c =
    let a = ranged_view c.args.a.now in
    let b = ranged_view c.args.b.now in
    let at = place_view c.args.place in
    let t = taken_view c.loop-k.taken in
    let same : to_z w64 (of_z w64 c.value-first.result) ≡ c.value-first.result =
    to_z-of_z w64 _ (record { sfits = c.value-first.type_inv }) in
    let too : to_z w64 (of_z w64 c.value.result) ≡ c.value.result =
    to_z-of_z w64 _ (record { sfits = c.value.type_inv }) in
    let made = ap (λ p. add at p t) (c.in_ok-point.ensures
    ∙ ap (λ z. pair_point a.var z b.var (to_z w64 (of_z w64 c.value.result)))
    (same ∙ c.value-first.ensures.value)
    ∙ ap (λ z. pair_point a.var (kth a c.args.j) b.var z) (too ∙ c.value.ensures.value)) in
    let below : c.loop-k.k < count_of b =
    omega (arith, c.loop-k-test.true, c.len-k-end.ensures) in
    step-more (add_pair at a b c.args.j) (count_of b) c.loop-k.k t (taken_view c.add.new.taken)
    below (sym made ∙ c.in-Ok.ensures)
    ∙ c.loop-k.invariant

pub returns-in-Err : goal.returns-in-Err
returns-in-Err c = λ refusal is.
    let a = ranged_view c.args.a.now in
    let b = ranged_view c.args.b.now in
    let at = place_view c.args.place in
    let t = taken_view c.loop-k.taken in
    let same : to_z w64 (of_z w64 c.value-first.result) ≡ c.value-first.result =
    to_z-of_z w64 _ (record { sfits = c.value-first.type_inv }) in
    let too : to_z w64 (of_z w64 c.value.result) ≡ c.value.result =
    to_z-of_z w64 _ (record { sfits = c.value.type_inv }) in
    let made = ap (λ p. add at p t) (c.in_ok-point.ensures
    ∙ ap (λ z. pair_point a.var z b.var (to_z w64 (of_z w64 c.value.result)))
    (same ∙ c.value-first.ensures.value)
    ∙ ap (λ z. pair_point a.var (kth a c.args.j) b.var z) (too ∙ c.value.ensures.value)) in
    let below : c.loop-k.k < count_of b =
    omega (arith, c.loop-k-test.true, c.len-k-end.ensures) in
    sym c.loop-k.invariant
    ∙ step-fails (add_pair at a b c.args.j) (count_of b) c.loop-k.k t (refusal_view refusal) below
    (sym made ∙ c.in-Err.ensures refusal is)
