use Rattle.std.proofs.Common.{◌≡◌, ◌-◌}
use Rattle.rvs_abstract.specs.CallView.{ranged_view}
use Rattle.rvs_cgf.specs.Groups.{each_step, with_jth, count_of, pairs}
use Rattle.rvs_cgf.specs.GroupView.{taken_view}
use Rattle.rvs_cgf.specs.PlaceView.{place_view}
use Rattle.rvs_cgf.proofs.families.family_pairs.Given as goal

abbrev pub invariant-loop-j : goal.invariant-loop-j
invariant-loop-j l =
    let a = ranged_view l.a in
    let b = ranged_view l.b in
    each_step (with_jth (place_view l.place) a b) l.j (count_of a - l.j) (taken_view l.taken)
    ≡ pairs (place_view l.place) a b (taken_view l.fn.taken)
