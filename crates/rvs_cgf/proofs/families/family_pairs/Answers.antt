use Rattle.std.proofs.Common.{◌<◌, ◌∙◌, sym, arith}
use Rattle.rvs_abstract.specs.CallView.{ranged_view}
use Rattle.rvs_cgf.specs.Groups.{with_jth, count_of}
use Rattle.rvs_cgf.specs.GroupView.{taken_view, refusal_view}
use Rattle.rvs_cgf.specs.PlaceView.{place_view}
use Rattle.rvs_cgf.proofs.Loops.{step-more, step-fails}
use Rattle.rvs_cgf.proofs.families.family_pairs.Goals as goal

pub loop-j-preserved : goal.loop-j-preserved
loop-j-preserved c =
    let a = ranged_view c.args.a.now in
    let b = ranged_view c.args.b.now in
    let below : c.loop-j.j < count_of a =
    omega (arith, c.loop-j-test.true, c.len-j-end.ensures) in
    step-more (with_jth (place_view c.args.place) a b) (count_of a) c.loop-j.j
    (taken_view c.loop-j.taken) (taken_view c.with_jth.new.taken) below c.in-Ok.ensures
    ∙ c.loop-j.invariant

pub returns-in-Err : goal.returns-in-Err
returns-in-Err c = λ refusal is.
    let a = ranged_view c.args.a.now in
    let b = ranged_view c.args.b.now in
    let below : c.loop-j.j < count_of a =
    omega (arith, c.loop-j-test.true, c.len-j-end.ensures) in
    sym c.loop-j.invariant
    ∙ step-fails (with_jth (place_view c.args.place) a b) (count_of a) c.loop-j.j
    (taken_view c.loop-j.taken) (refusal_view refusal) below (c.in-Err.ensures refusal is)
