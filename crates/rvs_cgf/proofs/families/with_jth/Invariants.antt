use Rattle.std.proofs.Common.{◌≡◌, ◌-◌}
use Rattle.rvs_abstract.specs.CallView.{ranged_view}
use Rattle.rvs_cgf.specs.Groups.{each_step, add_pair, count_of, with_jth}
use Rattle.rvs_cgf.specs.GroupView.{taken_view}
use Rattle.rvs_cgf.specs.PlaceView.{place_view}
use Rattle.rvs_cgf.proofs.families.with_jth.Given as goal

abbrev pub invariant-loop-k : goal.invariant-loop-k
invariant-loop-k l =
    let a = ranged_view l.a in
    let b = ranged_view l.b in
    each_step (add_pair (place_view l.place) a b l.j) l.k (count_of b - l.k) (taken_view l.taken)
    ≡ with_jth (place_view l.place) a b l.j (taken_view l.fn.taken)
