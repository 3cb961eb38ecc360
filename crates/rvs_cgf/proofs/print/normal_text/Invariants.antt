use Rattle.std.proofs.Common.{◌≡◌, ◌++◌, map, drop, flat_map}
use Rattle.rvs_cgf.specs.GroupView.{label_view}
use Rattle.rvs_cgf.specs.Print.{label_text}
use Rattle.rvs_cgf.proofs.print.normal_text.Given as goal

abbrev pub invariant-loop-label : goal.invariant-loop-label
invariant-loop-label l =
    l.text ++ flat_map label_text (map label_view (drop l.label-index l.label-items))
    ≡ flat_map label_text (map label_view l.groups)
