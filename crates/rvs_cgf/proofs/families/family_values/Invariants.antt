use Rattle.std.proofs.Common.{◌≡◌, ◌-◌}
use Rattle.rvs_abstract.specs.CallView.{ranged_view}
use Rattle.rvs_cgf.specs.Groups.{each_step, add_kth, count_of, values}
use Rattle.rvs_cgf.specs.GroupView.{taken_view}
use Rattle.rvs_cgf.specs.PlaceView.{place_view}
use Rattle.rvs_cgf.proofs.families.family_values.Given as goal

abbrev pub invariant-loop-k : goal.invariant-loop-k
invariant-loop-k l =
    let f = ranged_view l.f in
    each_step (add_kth (place_view l.place) f) l.k (count_of f - l.k) (taken_view l.taken)
    ≡ values (place_view l.place) f (taken_view l.fn.taken)
